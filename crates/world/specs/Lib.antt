pub mod Faults
pub mod Sources
pub mod IndexedColumns
pub mod Worlds
