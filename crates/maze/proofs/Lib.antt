pub mod RowLaws
pub mod ViewLaws
pub mod OneAnswer
pub mod PartLaws
pub mod GateLaws
pub mod WayLaws
pub mod OneWay
