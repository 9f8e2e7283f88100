pub mod Edges
pub mod Counting
pub mod Settled
pub mod Relaxing
pub mod Rounds
