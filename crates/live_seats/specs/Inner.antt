pub mod Notes
pub mod Replies
pub mod Seats
pub mod Tables
