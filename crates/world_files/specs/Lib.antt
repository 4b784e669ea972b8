pub mod Folders
pub mod Opening
pub mod Files
