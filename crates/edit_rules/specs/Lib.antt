pub mod Database
pub mod Acts
pub mod Words
pub mod Effects
pub mod Turns
pub mod Laws
pub mod Inner
