-- Laws for the proofs of the functions, one for each way out of the code: what the code computes is a variable with an equation.
pub mod Quotes
