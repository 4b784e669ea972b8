pub mod Looking
pub mod Numbers
pub mod Finding
pub mod Loading
pub mod Elsewhere
