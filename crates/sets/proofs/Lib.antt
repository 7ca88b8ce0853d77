pub mod Members
pub mod Maxima
pub mod Counts
pub mod Words
