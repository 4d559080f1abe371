pub mod Names
pub mod Files
pub mod Wanted
pub mod Answers
pub mod Stored
pub mod Inner
pub use Rattle.store_texts.specs as store_texts
