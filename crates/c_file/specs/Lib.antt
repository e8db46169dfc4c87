pub mod Pieces
pub mod Header
pub mod Program
pub mod File
