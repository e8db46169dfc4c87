pub mod Commands
pub mod Lines
pub mod Name
pub mod Number
pub mod Pieces
pub mod Reads
pub mod Storm
pub mod inside
