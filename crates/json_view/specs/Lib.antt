pub mod Words
pub mod Paths
pub mod Seen
pub mod Parts
pub mod Steps
pub mod Lists
pub mod Laws
pub mod Inner
