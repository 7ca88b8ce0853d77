pub mod Known
pub mod Counts
pub mod Asking
pub mod Rooms
pub mod WholeCounts
pub mod TextCounts
pub mod OneAnswer
