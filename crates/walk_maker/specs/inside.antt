-- What only bodies and proofs need: no public clause rests on it.
pub mod Table
pub mod Buckets
pub mod Calls
pub mod Reading
pub mod Jumps
pub mod Expand
pub mod Search
pub mod Marked
pub mod Reasons
