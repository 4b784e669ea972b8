pub mod Fronts
pub mod Opened
pub mod Tables
pub mod Wholes
