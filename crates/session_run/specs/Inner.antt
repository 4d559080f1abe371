pub mod Orders
pub mod Taken
