pub mod Row
pub mod Span
pub mod Words
