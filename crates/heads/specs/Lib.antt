pub mod Meaning
pub mod Others
