pub mod Placing
pub mod Planning
