pub mod Pieces
pub mod Placing
pub mod Runs
pub mod LocalRun
pub mod Search
pub mod New
pub mod Free
