pub mod Part
pub mod Stands
pub mod Stores
pub mod Rules
pub mod Given
pub mod Law
