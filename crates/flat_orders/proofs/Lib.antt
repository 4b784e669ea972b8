pub mod Writing
pub mod Ordering
