pub mod Acts
pub mod Codes
pub mod Reading
