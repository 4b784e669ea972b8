pub mod Devices
pub mod Lines
pub mod Answering
pub mod Output
pub mod Serving
pub mod Faults
