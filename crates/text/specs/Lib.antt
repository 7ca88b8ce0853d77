pub mod Tokens
pub mod Grammar
pub mod Meaning
pub mod Machine
pub mod Reader
pub mod Shown
pub mod Faults
pub mod Coded
