pub mod Forms
pub mod Images
pub mod Runs
