pub mod Served
pub mod ServedLaws
