pub mod Runs
pub mod Emitted
pub mod Inserted
pub mod LoweredValues
pub mod Lowered
pub mod Compiled
