pub mod Told
pub mod Reached
pub mod Stays
pub mod FlowLaw
