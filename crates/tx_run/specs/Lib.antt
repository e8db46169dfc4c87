pub mod Standing
pub mod Due
pub mod Settled
pub mod Called
pub mod Looked
pub mod inside
