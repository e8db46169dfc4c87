-- What only bodies and proofs need: no public clause rests on it.
pub mod Moved
