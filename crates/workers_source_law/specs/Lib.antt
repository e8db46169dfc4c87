pub mod States
pub mod Lines
pub mod Opened
pub mod Law
pub mod Reopened
pub mod FaultsTold
pub mod Alone
pub mod OwnHistory
