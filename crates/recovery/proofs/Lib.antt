pub mod RedoParts
pub mod BackParts
pub mod Recorded
