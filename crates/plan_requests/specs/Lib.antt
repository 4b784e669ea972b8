pub mod Servers
pub mod Requests
pub mod DocumentCaches
pub mod Planning
