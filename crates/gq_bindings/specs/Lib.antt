pub mod Tree
pub mod Seen
pub mod Places
pub mod Types
pub mod Forms
pub mod Targets
pub mod Reading
pub mod Faults
