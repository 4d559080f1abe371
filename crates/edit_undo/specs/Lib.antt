pub mod Inverse
pub mod Before
pub mod Inner
pub use Rattle.edit_rules.specs as edit_rules
