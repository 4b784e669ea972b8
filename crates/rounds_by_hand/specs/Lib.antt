pub mod Pending
pub mod Stored
pub mod Progress
pub mod Hands
