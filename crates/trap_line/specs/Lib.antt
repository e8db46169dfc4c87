pub mod Spots
pub mod Line
