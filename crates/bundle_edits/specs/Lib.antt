pub mod Edits
pub mod Changes
pub mod Laws
pub mod Inner
