pub mod Choosing
pub mod Traced
pub mod Written
