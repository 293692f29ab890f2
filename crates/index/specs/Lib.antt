pub mod Calls
pub mod FormatLaws
pub mod BeginLaws
pub mod CommitLaws
