pub mod Numerals
pub mod Parts
pub mod Fields
pub mod StateRecord
pub mod Held
pub mod LogRecord
pub mod Clashing
