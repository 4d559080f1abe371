pub mod Opens
pub mod Prepared
