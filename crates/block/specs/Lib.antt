pub mod Format
pub mod Told
pub mod Good
