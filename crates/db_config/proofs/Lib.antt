pub mod Doubles
pub mod Tables
pub mod Tests
pub mod Above
