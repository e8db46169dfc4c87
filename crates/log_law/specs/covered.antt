pub mod Covered
pub mod Law
