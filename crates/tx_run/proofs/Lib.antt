pub mod RunParts
pub mod CallParts
