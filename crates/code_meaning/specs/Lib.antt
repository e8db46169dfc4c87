pub mod Code
pub mod Deeds
pub mod Law
pub mod Logged
pub mod Calls
pub mod Constants
pub mod Parameters
pub mod Whole
