pub mod Format
pub mod Legal
pub mod Conversions
pub mod Sizes
pub mod Records
