pub mod Head
pub mod Place
