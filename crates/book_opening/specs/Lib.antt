pub mod Opens
pub mod Inner
pub use Rattle.live_book.specs as live_book
pub use Rattle.version_tree.specs as version_tree
