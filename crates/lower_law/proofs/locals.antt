pub mod Locals
pub mod Sides
pub mod Scopes
pub mod Leaves
pub mod Kept
