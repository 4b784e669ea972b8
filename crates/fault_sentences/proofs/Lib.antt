pub mod Following
pub mod PlaceSteps
pub mod Sentences
