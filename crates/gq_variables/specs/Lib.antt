pub mod Variables
pub mod JsonCoercion
pub mod Values
pub mod Seen
