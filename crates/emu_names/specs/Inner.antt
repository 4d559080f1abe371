pub mod Count
pub mod Gives
pub mod Rule
