pub mod CrewMeaning
pub mod Meaning
pub mod MovedMeaning
pub mod PoolMeaning
pub mod ServeMeaning
pub mod StormMeaning
pub mod WorkersMeaning
