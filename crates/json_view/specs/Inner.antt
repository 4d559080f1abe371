pub mod Gives
pub mod Lists
pub mod Parts
pub mod Seen
pub mod Words
