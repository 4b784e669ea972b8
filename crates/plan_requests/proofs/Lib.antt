pub mod Crossing
pub mod Keepings
pub mod KeptPlans
pub mod Requests
pub mod Values
