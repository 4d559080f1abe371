pub mod Annots
pub mod Counts
pub mod Heads
pub mod Names
pub mod Inner
