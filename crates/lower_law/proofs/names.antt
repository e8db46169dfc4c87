pub mod Fits
pub mod StmtFits
pub mod Typed
pub mod Declared
pub mod Fields
pub mod ExpFits
pub mod BodyFits
