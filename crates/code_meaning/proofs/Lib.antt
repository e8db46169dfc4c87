pub mod More
pub mod Rows
pub mod Registers
