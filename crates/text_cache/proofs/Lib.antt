pub mod Found
pub mod Keepings
