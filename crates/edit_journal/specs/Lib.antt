pub mod Held
pub mod Law
pub mod Store
pub mod Inner
