pub mod Plays
pub mod Holding
pub mod Marking
pub mod Cases
pub mod Faults
pub mod Calls
pub mod Recoveries
pub mod Rest
pub mod Refusing
pub mod Quiets
pub mod Writing
pub mod Filling
pub mod Bounding
mod Same
