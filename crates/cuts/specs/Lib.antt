pub mod Examples
pub mod Caught
