pub mod Inner
pub use Rattle.session_core.specs as session_core
pub use Rattle.version_tree.specs as version_tree
