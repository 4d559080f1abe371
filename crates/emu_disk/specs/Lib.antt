pub mod Disk
pub mod Inner
