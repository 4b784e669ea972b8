pub mod Grouping
pub mod Rests
pub mod Preparing
pub mod OtherVariables
pub mod VariableKeys
