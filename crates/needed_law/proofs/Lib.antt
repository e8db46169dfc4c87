pub mod Lines
pub mod Refuting
pub mod Wrongs
pub mod Mets
pub mod RunsMet
pub mod SessionMet
pub mod Determined
pub mod Refusals
