pub mod Answers
pub mod Arrays
pub mod Lines
pub mod Logs
pub mod Requests
pub mod Services
pub mod Sessions
