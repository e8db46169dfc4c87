pub mod Exiting
pub mod Held
