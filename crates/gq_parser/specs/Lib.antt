-- Definitions. Public are those of the standard and of its faults: Keywords, Tree, Types, Word, Grammar and Fault.
-- Machine and Parsing say how the code finds what these name, and no public clause cites them.
pub mod Keywords
pub mod Tree
pub mod Types
pub mod Word
pub mod Grammar
pub mod Fault
pub mod Machine
pub mod Parsing
