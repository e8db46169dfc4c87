pub mod Follows
pub mod Origins
pub mod Standing
