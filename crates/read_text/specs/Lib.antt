pub mod Heads
pub mod Reading
pub mod Ending
