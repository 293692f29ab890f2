pub mod Reads
pub mod ReadsLaws
pub mod Merges
pub mod MergesLaws
