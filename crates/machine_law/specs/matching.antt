pub mod Accesses
pub mod Compiled
pub mod Match
pub mod Law
