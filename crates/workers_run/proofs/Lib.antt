pub mod WorkersRuns
pub mod WorkersHolding
