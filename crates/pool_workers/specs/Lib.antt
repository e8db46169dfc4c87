pub mod Compartment
pub mod Sets
pub mod Look
pub mod Task
pub mod Crew
pub mod Making
pub mod inside
