pub mod emitted
pub mod pieces
pub mod matching
