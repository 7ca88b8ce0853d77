pub mod Calls
pub mod Asking
pub mod Whole
