pub mod Compiling
pub mod Calling
