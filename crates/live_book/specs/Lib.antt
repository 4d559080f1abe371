pub mod Histories
pub mod Published
pub mod Kept
pub mod Commits
pub mod Live
pub mod Laws
pub mod Inner
pub use Rattle.edit_code.specs as edit_code
pub use Rattle.edit_undo.specs as edit_undo
