pub mod KeptSteps
pub mod RoundLaws
pub mod OneAnswer
pub mod Memory
