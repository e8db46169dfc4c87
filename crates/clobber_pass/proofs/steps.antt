pub mod Steps
pub mod After
pub mod About
pub mod Calls
pub mod Fits
