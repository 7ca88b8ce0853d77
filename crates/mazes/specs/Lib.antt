pub mod Mazes
pub mod AsRounds
pub mod Fitting
