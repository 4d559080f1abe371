pub mod Below
pub mod Bits
pub mod Ends
pub mod Joins
pub mod Labels
pub mod Meaning
pub mod Results
pub mod Rows
