pub mod RowLaws
pub mod FindLaws
pub mod StepLaws
pub mod Examples
