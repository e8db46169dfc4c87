pub mod Trees
pub mod Lengths
