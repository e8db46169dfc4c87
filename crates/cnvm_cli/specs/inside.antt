-- What only bodies and proofs need: no public clause rests on it.
pub mod CrewEnds
pub mod Ends
pub mod FormerEnds
pub mod Opened
pub mod PoolEnds
pub mod ServeEnds
pub mod Texts
pub mod WorkersEnds
