pub mod Target
pub mod Asks
pub mod Reach
pub mod Carried
pub mod Laws
pub mod Inner
pub use Rattle.eql_model.specs as eql_model
pub use Rattle.eql_rows.specs as eql_rows
pub use Rattle.eql_tuples.specs as eql_tuples
