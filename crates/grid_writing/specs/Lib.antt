pub mod Filled
pub mod Levels
pub mod Layout
pub mod Written
pub mod Back
pub mod Inner
