pub mod Fields
pub mod Names
pub mod Emit
pub mod Law
