pub mod Head
pub mod Asked
