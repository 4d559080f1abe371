pub mod Index
pub mod Kind
pub mod Link
pub mod Inner
