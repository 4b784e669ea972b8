pub mod Core
pub mod Desk
pub mod Round
pub mod Work
pub mod Workers
