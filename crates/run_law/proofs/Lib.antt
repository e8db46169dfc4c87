pub mod Headers
pub mod Inputs
pub mod Join
pub mod Sounds
pub mod Runs
pub mod Shapes
pub mod Recorded
