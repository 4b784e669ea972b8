pub mod Totals
pub mod Found
