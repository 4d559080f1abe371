pub mod Kept
pub mod Sets
pub mod Stretches
