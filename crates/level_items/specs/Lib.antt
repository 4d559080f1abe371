pub mod Times
pub mod Levels
pub mod Faults
pub mod Changed
pub mod Laws
pub mod Inner
