pub mod Locals
pub mod Access
pub mod Operators
pub mod Meaning
pub mod Accesses
pub mod Transaction
