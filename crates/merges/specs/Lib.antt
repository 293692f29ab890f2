pub mod Merging
pub mod Examples
pub mod MergingLaws
pub mod LoopLaws
