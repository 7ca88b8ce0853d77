pub mod Pigeons
pub mod Order
pub mod SearchLaws
pub mod Turning
pub mod WrittenLaws
pub mod CallLaws
pub mod OneAnswer
