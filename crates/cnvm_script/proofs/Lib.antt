pub mod Cuts
pub mod Digits
pub mod Names
pub mod Scripts
pub mod Draws
