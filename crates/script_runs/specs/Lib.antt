pub mod LiveTexts
pub mod Cuts
pub mod Scripts
pub mod Bases
pub mod Runs
pub mod Says
pub mod Lives
pub mod Told
pub mod Inner
pub use Rattle.book_opening.specs as book_opening
pub use Rattle.live_run.specs.live_book
pub use Rattle.program_output.specs as program_output
pub use Rattle.live_run.specs.session_core
