pub mod Runs
pub mod Marks
pub mod Inner
pub use Rattle.edit_rules.specs as edit_rules
pub use Rattle.live_seats.specs.live_book
pub use Rattle.live_seats.specs.session_core
