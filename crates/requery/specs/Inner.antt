pub mod Codes
pub mod Sound
pub mod Ways
pub mod Answers
