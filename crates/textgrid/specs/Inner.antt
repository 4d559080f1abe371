pub mod Encodings
pub mod Grids
pub mod Levels
pub mod Quoted
pub mod Reading
pub mod Short
pub mod Told
pub mod Values
