pub mod Drafts
pub mod Inner
pub use Rattle.bundle_index.specs as bundle_index
pub use Rattle.edit_rules.specs as edit_rules
pub use Rattle.version_tree.specs as version_tree
