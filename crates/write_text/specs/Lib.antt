pub mod Pieces
pub mod Spots
pub mod WriteText
