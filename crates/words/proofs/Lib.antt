pub mod WordLaws
pub mod PauseLaws
