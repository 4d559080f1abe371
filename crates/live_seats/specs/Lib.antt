pub mod Marks
pub mod Inner
pub use Rattle.live_book.specs as live_book
pub use Rattle.live_laws.specs as live_laws
pub use Rattle.query_workers.specs.session_core
