pub mod Gives
pub mod Apps
pub mod Readings
pub mod Table
