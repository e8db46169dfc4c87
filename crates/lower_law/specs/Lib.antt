pub mod Law
pub mod Accesses
pub mod Parameters
