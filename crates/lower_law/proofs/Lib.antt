pub mod runs
pub mod locals
pub mod names
pub mod Laws
