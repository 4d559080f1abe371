pub mod Laws
pub mod Rows
pub mod Spans
pub mod Inner
