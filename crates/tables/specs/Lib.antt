pub mod Kinds
pub mod Table
pub mod Codes
