pub mod Fragments
pub mod Knowledge
pub mod Meeting
pub mod Members
pub mod Placed
pub mod Ranked
pub mod SetMembers
pub mod Written
