pub mod Exits
pub mod inside
