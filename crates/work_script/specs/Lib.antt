pub mod Script
pub mod States
pub mod Summary
pub mod Inner
