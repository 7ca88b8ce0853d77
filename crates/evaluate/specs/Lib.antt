pub mod Next
pub mod Reacts
