pub mod Collecting
pub mod Headline
pub mod Levels
pub mod Met
pub mod OfServers
pub mod Unset
