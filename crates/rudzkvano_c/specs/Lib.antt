pub mod Codes
pub mod Made
pub mod Told
pub mod Held
pub mod Sizes
pub mod Logged
pub mod Loaders
pub mod Loads
