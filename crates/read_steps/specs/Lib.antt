pub mod Levels
pub mod Found
pub mod Records
pub mod Moves
pub mod Holding
