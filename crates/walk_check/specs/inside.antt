-- What only bodies and proofs need: no public clause of this crate rests on it.
pub mod Grown
