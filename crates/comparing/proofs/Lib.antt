pub mod ByBytes
pub mod Loops
