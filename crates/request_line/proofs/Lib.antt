mod Lines
mod Loops
mod PlainMembers
pub mod Keys
