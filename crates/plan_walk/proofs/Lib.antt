pub mod Lookups
pub mod Grouping
pub mod Copying
pub mod Stepping
pub mod Touring
pub mod Noting
pub mod MadeAgain
pub mod Leaves
