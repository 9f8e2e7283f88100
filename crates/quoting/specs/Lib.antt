pub mod Quoting
pub mod Counted
pub mod Intents
pub mod Meaning
