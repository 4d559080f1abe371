pub mod Columns
pub mod Fitted
pub mod Index
pub mod Keys
pub mod Numbered
