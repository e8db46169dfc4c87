pub mod Answering
pub mod Comments
pub mod Cutting
pub mod Limits
pub mod Marks
pub mod Numbers
pub mod Runs
