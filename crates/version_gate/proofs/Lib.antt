pub mod Adding
pub mod Agreeing
pub mod Beginnings
pub mod Numbers
