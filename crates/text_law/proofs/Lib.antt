pub mod Counting
pub mod Lowering
pub mod Meaning
