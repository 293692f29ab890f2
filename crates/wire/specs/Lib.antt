pub mod Bytes
pub mod Cases
pub mod BytesLaws
pub mod All
