pub mod BookLaws
pub mod Holds
pub mod Steps
pub mod Claim
pub mod Kept
pub mod Last
pub mod UncaughtLaws
