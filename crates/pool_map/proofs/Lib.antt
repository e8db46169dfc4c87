pub mod FitTests
pub mod Least
pub mod Points
pub mod Slots
pub mod Fitting
pub mod Joined
