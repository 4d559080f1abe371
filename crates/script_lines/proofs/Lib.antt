pub mod Members
pub mod Json
pub mod Rising
pub mod Taken
pub mod ValidConfigs
pub mod Listed
pub mod KnownLines
pub mod Making
