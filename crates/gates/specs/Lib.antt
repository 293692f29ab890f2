pub mod Gates
pub mod GatesLaws
