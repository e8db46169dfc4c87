pub mod Tables
pub mod Law
pub mod Matched
