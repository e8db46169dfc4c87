pub mod Begins
pub mod Left
pub mod LineSize
pub mod Serves
pub mod inside
