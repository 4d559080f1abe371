pub mod Folders
pub mod Fronts
