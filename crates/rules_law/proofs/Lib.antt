pub mod typed
pub mod rules
