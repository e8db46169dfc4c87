pub mod WorkersRan
pub mod WorkersHeld
