pub mod Few
pub mod Found
pub mod Reach
pub mod Shown
pub mod Ways
