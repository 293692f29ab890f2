pub mod Checks
pub mod FoundLaws
pub mod PassLaws
pub mod ChecksLaws
pub mod CheckLoopLaws
