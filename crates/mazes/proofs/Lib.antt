pub mod Lists
pub mod Standing
pub mod Forms
pub mod Played
pub mod Claimed
pub mod AsRounds
pub mod OneEnd
pub mod Cases
