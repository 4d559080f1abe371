pub mod Members
pub mod Unions
mod RowEnds
mod Kin
pub mod KinFound
pub mod Levels
pub mod Lists
mod Checkable
pub use Rattle.eql_model.proofs as of_eql_model
