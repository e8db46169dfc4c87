pub mod covered
pub mod inserted
