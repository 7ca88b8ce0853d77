pub mod Likeness
pub mod Runs
