pub mod Versions
pub mod Views
pub mod Ready
pub mod During
pub mod Collapses
pub mod Lists
pub mod Lefts
