pub mod NodeLaws
pub mod SizeLaws
pub mod CopyLaws
pub mod DoublingLaws
