pub mod Kept
pub mod Told
pub mod Steps
pub mod Stops
pub mod Undone
pub mod Room
pub mod Rising
