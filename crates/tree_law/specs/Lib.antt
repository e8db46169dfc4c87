pub mod sizes
pub mod checked
