pub mod Kept
pub mod Maker
