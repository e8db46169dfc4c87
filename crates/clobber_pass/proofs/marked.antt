pub mod PlaceMarks
pub mod Tabled
pub mod AllTopics
pub mod Exact
