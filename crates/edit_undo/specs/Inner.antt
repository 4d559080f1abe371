pub mod Answers
pub mod Links
pub mod Items
pub mod Turns
