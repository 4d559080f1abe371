pub mod Laws
pub mod Merged
pub mod Texts
pub mod Inner
