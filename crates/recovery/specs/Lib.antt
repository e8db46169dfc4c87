pub mod Found
pub mod Due
pub mod Recovered
pub mod inside
