pub mod Text
pub mod Examples
pub mod ReadLaws
pub mod WriteLaws
