pub mod Elements
pub mod Orders
pub mod Gaps
pub mod Leaves
pub mod Fullness
pub mod Changes
pub mod States
pub mod Versions
mod Fitting
