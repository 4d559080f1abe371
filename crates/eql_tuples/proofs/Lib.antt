pub mod AllOf
pub mod Gathers
pub mod Members
mod Rising
pub mod Stretches
