pub mod Lists
pub mod ListsLaws
pub mod Listed
pub mod ListedLaws
pub mod ChangedLaws
pub mod RecordLaws
