pub mod Gate
pub mod Left
