pub mod States
mod Codes
pub mod Crossings
pub mod Configs
mod Ahead
pub mod Storing
pub mod Sizes
mod Showing
mod Inverses
pub mod Committing
pub mod Answering
pub mod Lists
pub mod Living
