pub mod Nodes
pub mod Sizes
pub mod Copying
pub mod Doubling
