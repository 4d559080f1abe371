pub mod Ruled
pub mod Backs
pub mod Turning
