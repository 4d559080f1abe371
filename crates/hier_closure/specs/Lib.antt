pub mod Dominance
pub mod Laws
pub mod Inner
