pub mod Inner
pub use Rattle.bundle_index.specs as bundle_index
pub use Rattle.eql_columns.specs as eql_columns
pub use Rattle.eql_model.specs as eql_model
pub use Rattle.eql_rows.specs as eql_rows
pub use Rattle.eql_tuples.specs as eql_tuples
