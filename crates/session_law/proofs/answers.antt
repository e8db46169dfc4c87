pub mod Looking
pub mod Dead
pub mod Calls
pub mod Recoveries
pub mod Powers
pub mod Commands
pub mod Creating
pub mod Opening
