-- What only bodies and proofs need: no public clause rests on it.
pub mod Answers
pub mod Code
pub mod Found
pub mod Kept
pub mod Runs
pub mod Stack
