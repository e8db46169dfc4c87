-- What only bodies and proofs need: no public clause rests on it.
pub mod Calling
pub mod Carrying
pub mod Class
pub mod Classes
pub mod Closed
pub mod Flow
pub mod Law
pub mod Room
pub mod Sound
pub mod Told
pub mod Marking
pub mod Row
pub mod Sweep
