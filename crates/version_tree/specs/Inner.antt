pub mod Kept
pub mod Pages
pub mod Places
pub mod Under
pub mod Version
