-- What only bodies and proofs need: no public clause rests on it.
pub mod Entries
pub mod Resume
pub mod Todo
pub mod Answers
