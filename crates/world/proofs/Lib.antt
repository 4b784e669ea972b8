pub mod Columns
pub mod Names
pub mod Loaders
pub mod Worlds
