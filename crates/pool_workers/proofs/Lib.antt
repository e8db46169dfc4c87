pub mod Rooms
pub mod Windows
pub mod Opened
pub mod Turns
pub mod Makes
