pub mod Cause
pub mod Folders
pub mod Fronts
pub mod Inner
