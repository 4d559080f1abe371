mod Powers
pub mod Skips
mod Quotes
mod Faults
mod Times
mod Sizes
mod Kept
mod Exact
mod Grids
