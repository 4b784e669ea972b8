pub mod Clashes
pub mod Entered
pub mod Merging
pub mod Numbered
pub mod Recursions
pub mod Renumbered
pub mod Sets
pub mod Table
