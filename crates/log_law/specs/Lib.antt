pub mod covered
pub mod inserted
pub mod inside
