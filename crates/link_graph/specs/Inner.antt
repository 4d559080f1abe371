pub mod Blocks
pub mod Ends
pub mod Forms
pub mod Index
pub mod Link
pub mod Links
