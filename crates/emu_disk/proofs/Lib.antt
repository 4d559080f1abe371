mod Kept
pub mod Moments
mod Past
