pub mod Entries
pub mod Calls
pub mod Histories
pub mod Places
pub mod Answered
