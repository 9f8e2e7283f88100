pub mod Meaning
pub mod Answering
pub mod Measure
