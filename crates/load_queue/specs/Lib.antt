pub mod Answers
pub mod Batches
pub mod Fetched
pub mod Loaders
pub mod Logs
pub mod Orders
pub mod Runs
pub mod Wanted
