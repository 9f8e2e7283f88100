-- Laws for the proofs of the functions: for each way out of a function, and for a turn of its loop.
pub mod LowestLaws
pub mod OrderLaws
