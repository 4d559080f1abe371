pub mod Members
pub mod Refusals
pub mod Texts
pub mod Inner
pub use Rattle.eql_rows.specs as eql_rows
pub use Rattle.session_core.specs as session_core
