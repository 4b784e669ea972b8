pub mod Writing
pub mod Adding
pub mod Columns
