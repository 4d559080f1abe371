pub mod Queries
pub mod Answers
pub mod Undos
pub mod Sizes
pub mod Steps
pub mod Commands
pub mod Worlds
pub mod Legal
pub mod InOrder
pub mod Example
pub mod Laws
pub mod OrderLaws
pub mod Readings
pub mod Inner
pub use Rattle.edit_undo.specs as edit_undo
pub use Rattle.requery.specs as requery
pub use Rattle.segment_list.specs as segment_list
