pub mod Grammar
pub mod Commas
pub mod ParseLaws
pub mod Examples
