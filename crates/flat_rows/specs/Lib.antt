pub mod Examples
pub mod Faults
pub mod Grouped
pub mod Keyed
pub mod Replies
