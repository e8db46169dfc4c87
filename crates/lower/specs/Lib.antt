pub mod Names
pub mod Forms
pub mod Lowers
pub mod Assigned
pub mod Program
pub mod inside
