pub mod Far
pub mod Orders
pub mod Readying
pub mod Taking
pub mod Storing
pub mod Becoming
pub mod Within
pub mod Turning
