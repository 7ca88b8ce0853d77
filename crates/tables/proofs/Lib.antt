pub mod Shapes
pub mod CodeLaws
pub mod Rows
pub mod Places
pub mod LoopWalk
