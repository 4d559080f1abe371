pub mod Single
pub mod Walk
