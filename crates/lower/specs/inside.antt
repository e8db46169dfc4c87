-- What only bodies and proofs need: no public clause rests on it.
pub mod Added
pub mod Holes
pub mod Lowers
pub mod Names
pub mod Program
