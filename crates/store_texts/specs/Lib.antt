pub mod Texts
pub mod Causes
pub mod Commands
pub mod Asked
pub mod Inner
pub use Rattle.edit_rules.specs as edit_rules
pub use Rattle.reply_texts.specs as reply_texts
pub use Rattle.reply_texts.specs.session_core
