pub mod Law
pub mod Moved
