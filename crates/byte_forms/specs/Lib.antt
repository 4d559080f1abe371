pub mod Forms
pub mod Parts
pub mod Lists
pub mod Utf8
pub mod Inner
