pub mod Acts
pub mod Effects
pub mod Kept
pub mod KeyPlaces
pub mod Turns
