pub mod Agreeing
pub mod Once
pub mod Refusing
pub mod Trees
