pub mod EndToEnd
pub mod InOrder
mod Touching
pub mod Walk
