pub mod Cutting
pub mod Gathering
