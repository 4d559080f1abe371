mod Known
mod Added
pub mod Bits
pub mod Standing
pub mod Tests
