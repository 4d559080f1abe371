pub mod Cuts
pub mod Lookups
pub mod Next
mod PairSteps
pub mod Places
mod SameEdit
pub mod Spans
pub mod Steps
pub mod Traces
pub mod TimedLinks
pub mod TimedSteps
