pub mod RunEnds
pub mod Command
pub mod Words
pub mod Origins
