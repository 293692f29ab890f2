pub mod Edits
pub mod EditsLaws
