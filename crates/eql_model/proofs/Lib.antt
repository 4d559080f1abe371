pub mod Between
pub mod Conditions
pub mod Covers
pub mod Extents
pub mod Fitting
pub mod Listed
pub mod MadeRows
pub mod Places
pub mod Ranges
mod RowEnds
pub mod Shown
