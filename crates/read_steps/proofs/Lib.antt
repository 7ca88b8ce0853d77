pub mod LevelLaws
pub mod FoundLaws
pub mod MoveLaws
pub mod ByteLaws
pub mod StepLaws
pub mod TokenLaws
