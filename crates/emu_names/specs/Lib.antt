pub mod Name
pub mod Order
pub mod Rule
pub mod Texts
pub mod Steps
pub mod Count
pub mod Inner
