pub mod Found
pub mod Threads
