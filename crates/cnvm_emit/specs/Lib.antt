pub mod Emitted
pub mod Entries
pub mod Law
pub mod Name
