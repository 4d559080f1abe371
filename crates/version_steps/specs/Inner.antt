pub mod Drafts
pub mod Steps
