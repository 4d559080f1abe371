pub mod Agreed
pub mod Aside
pub mod Bare
pub mod ByRows
pub mod Clear
mod Ends
pub mod FewTuples
pub mod FoundBy
pub mod FoundWhere
pub mod ItemsShown
pub mod Near
pub mod Order
pub mod Passes
pub mod RowsBetween
pub mod Steps
pub use Rattle.eql_model.proofs as of_eql_model
