pub mod Tops
pub mod Ends
pub mod Numbers
pub mod Ticks
pub mod Resume
pub mod Quiet
