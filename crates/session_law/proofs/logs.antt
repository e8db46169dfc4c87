pub mod Coming
pub mod Logging
pub mod FullLogs
pub mod Exact
