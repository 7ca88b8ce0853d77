pub mod Parts
pub mod TakenSteps
pub mod LeafLaws
pub mod AskedLaws
