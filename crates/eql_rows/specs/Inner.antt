pub mod Flags
pub mod Names
pub mod Numbers
pub mod Spans
pub mod Times
