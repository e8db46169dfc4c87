pub mod Bound
pub mod Few
pub mod Fine
pub mod Good
pub mod Written
