pub mod FrontLemmas
pub mod Fronts
