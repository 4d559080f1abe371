pub mod Lists
pub mod Apart
pub mod Rules
pub mod Found
pub mod Changes
pub mod Exact
pub mod Wider
pub mod Padded
mod Written
