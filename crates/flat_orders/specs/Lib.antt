pub mod Written
pub mod Orders
