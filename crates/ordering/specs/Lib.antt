pub mod Lowest
pub mod Order
