pub mod Held
pub mod Recovery
pub mod Staged
