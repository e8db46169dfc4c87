pub mod Carrying
pub mod Good
pub mod Columns
pub mod Whole
pub mod Flowing
pub mod Starting
