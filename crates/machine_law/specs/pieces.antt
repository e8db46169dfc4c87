pub mod Stands
pub mod Fits
pub mod Shows
pub mod Law
pub mod Pools
pub mod Words
