pub mod Fronts
pub mod Instants
pub mod Answers
pub mod Outcomes
