-- Laws for the proofs of the functions, one for each way out of the code.
pub mod Laws
