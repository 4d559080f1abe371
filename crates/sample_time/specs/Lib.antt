pub mod Micros
pub mod Printed
pub mod Reading
pub mod Sample
pub mod Spelling
pub mod Inner
