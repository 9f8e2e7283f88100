pub mod Records
pub mod Meaning
