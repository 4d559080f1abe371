pub mod Listing
pub mod Merged
pub mod Pieces
pub mod Texts
