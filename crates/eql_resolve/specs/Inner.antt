pub mod Codes
pub mod Prepare
pub mod Sound
pub mod View
