pub mod Open
pub mod ExprOpen
pub mod StmtOpen
pub mod Weight
pub mod WeightLaw
pub mod Exact
pub mod inside
