pub mod Cuts
pub mod Lines
pub mod Words
pub mod Statements
pub mod Reading
pub mod Seen
