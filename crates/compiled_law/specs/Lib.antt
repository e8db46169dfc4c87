pub mod Law
pub mod inside
