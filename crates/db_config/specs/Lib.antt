pub mod Made
pub mod Names
pub mod Above
pub mod Valid
pub mod Lookups
pub mod Extends
pub mod Laws
pub mod Inner
