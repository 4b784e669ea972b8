pub mod Equivalence
