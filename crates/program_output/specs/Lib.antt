pub mod Texts
pub mod Statuses
pub mod Inner
pub use Rattle.store_texts.specs.reply_texts
