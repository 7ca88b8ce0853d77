pub mod Walks
pub mod Memo
