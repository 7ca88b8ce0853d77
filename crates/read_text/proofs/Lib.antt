pub mod HeadLaws
pub mod ReaderLaws
pub mod ScanLaws
pub mod EndingLaws
pub mod OwedLaws
pub mod ReadLaws
pub mod TextRefusals
