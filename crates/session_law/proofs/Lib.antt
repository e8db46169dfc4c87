pub mod Words
pub mod logs
pub mod Scripts
pub mod images
pub mod answers
pub mod chains
