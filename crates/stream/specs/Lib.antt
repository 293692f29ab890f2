pub mod Stream
pub mod Feeds
pub mod StreamLaws
pub mod Whole
pub mod LoopLaws
pub mod Examples
