pub mod Bits
pub mod Lookup
pub mod Views
pub mod Joins
pub mod Rounds
pub mod Meeting
pub mod Rooms
