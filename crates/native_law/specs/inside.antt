-- What only proofs need: no public clause rests on it.
pub mod Standing
