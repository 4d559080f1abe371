pub mod Drafts
pub mod Inverses
pub mod Kept
pub mod Live
pub mod Prepared
