pub mod Settling
pub mod Meaning
