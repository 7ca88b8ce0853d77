pub mod Owed
pub mod Calls
pub mod Reasons
