pub mod Extending
pub mod Onward
pub mod Turnings
pub mod Rounds
pub mod Beginning
pub mod Crews
pub mod OneTurn
pub mod Recovering
