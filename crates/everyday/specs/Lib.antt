pub mod Statements
pub mod Meaning
pub mod Conversion
pub mod Instants
pub mod Check
pub mod Kernel
