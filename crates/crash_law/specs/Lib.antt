pub mod Pools
pub mod Due
pub mod Law
pub mod Effects
