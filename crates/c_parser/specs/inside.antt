-- What only bodies and proofs need: no public clause rests on it.
pub mod Fixes
pub mod Pieces
pub mod Run
pub mod Exact
pub mod Wants
pub mod Stacks
