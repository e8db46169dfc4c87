pub mod Words
pub mod PlainCalls
pub mod PlainStatements
pub mod Tokens
pub mod ExprConstants
pub mod StmtConstants
pub mod Laws
