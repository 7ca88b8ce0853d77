pub mod FormLaws
pub mod ActiveLaws
