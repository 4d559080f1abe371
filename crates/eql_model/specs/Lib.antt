pub mod Covers
pub mod Labels
pub mod Laws
pub mod Meaning
pub mod Positions
pub mod Results
pub mod Rows
pub mod Inner
