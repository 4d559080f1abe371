pub mod Law
pub mod Lists
pub mod Seats
pub mod Snapshots
