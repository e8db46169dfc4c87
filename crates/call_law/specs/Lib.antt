pub mod Call
pub mod Law
