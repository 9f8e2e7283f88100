pub mod Own
pub mod Lent
pub mod Gate
