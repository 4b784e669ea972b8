-- Definitions. Public are Requests and Seen. Plain says how the code reads a line without a value, and no public clause cites it.
pub mod Requests
pub mod Seen
pub mod Plain
pub mod Keys
