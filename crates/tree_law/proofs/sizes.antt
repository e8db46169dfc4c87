pub mod Lengths
pub mod StmtLengths
pub mod ExprShort
pub mod StmtShort
pub mod ProgramShort
