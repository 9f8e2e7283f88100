pub mod Insertion
pub mod Planned
pub mod Meaning
