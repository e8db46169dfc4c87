-- What only bodies and proofs need: no public clause rests on it.
pub mod Sparse
pub mod Placed
pub mod Zeros
pub mod Known
