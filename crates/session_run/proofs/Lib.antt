pub mod Pieces
pub mod Holding
pub mod Raging
pub mod Running
