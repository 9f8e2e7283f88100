pub mod Meaning
pub mod Fetching
