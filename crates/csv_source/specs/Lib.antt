pub mod Chains
pub mod Faults
pub mod Hashes
pub mod KeyLaws
pub mod Reading
pub mod Sources
pub mod Tables
