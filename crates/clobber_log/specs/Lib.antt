pub mod Record
pub mod Reset
pub mod Logs
pub mod Restore
