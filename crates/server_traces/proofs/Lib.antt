pub mod Captured
pub mod Tracing
