pub mod Ones
pub mod Retired
pub mod Cleaning
pub mod Redone
pub mod Heaps
pub mod Reading
pub mod Restoring
pub mod Resting
