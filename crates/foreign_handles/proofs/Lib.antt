pub mod Boxes
pub mod Crossing
pub mod Lone
