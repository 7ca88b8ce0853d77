pub mod Laid
pub mod OneAnswer
