pub mod Records
pub mod Fits
pub mod Back
pub mod Same
pub mod Stores
pub mod Examples
