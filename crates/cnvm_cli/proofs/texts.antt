pub mod Digits
pub mod Heads
pub mod Sources
pub mod Verdicts
