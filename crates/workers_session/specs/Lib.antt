pub mod Told
pub mod LineText
pub mod WorkersState
pub mod Looks
pub mod WorkersCommands
pub mod inside
