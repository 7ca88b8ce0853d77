pub mod Examples
pub mod Copied
pub mod Twins
pub mod Made
pub mod Runs
pub mod OnBytes
