pub mod Answers
pub mod Reasons
