pub mod MachineCode
pub mod Code
pub mod Law
