pub mod Numbers
pub mod Places
pub mod PlacesLaws
pub mod Halves
