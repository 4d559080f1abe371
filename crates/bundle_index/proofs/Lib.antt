pub mod Callers
pub mod Numbers
pub mod ShortLabels
pub mod Steps
pub mod Facts
pub mod Asked
mod Widening
