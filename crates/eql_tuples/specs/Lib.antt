pub mod Laws
pub mod Sets
pub mod Shown
pub mod Tuples
pub mod Inner
