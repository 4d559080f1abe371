pub mod Ordered
pub mod Stems
pub mod Json
pub mod Going
pub mod Ending
pub mod Reading
