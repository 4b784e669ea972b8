pub mod TextCaches
pub mod Keeping
pub mod Examples
