pub mod Logs
pub mod Traces
