pub mod Faults
pub mod Planning
pub mod Unique
pub mod Validity
pub mod Absent
