mod Backwards
pub mod Listed
mod Parted
mod Plain
mod Pushed
mod Rising
pub mod Threads
mod Written
