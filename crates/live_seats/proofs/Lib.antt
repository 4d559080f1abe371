mod Shown
mod Counts
mod Replying
mod Edits
mod Lines
mod Seating
mod Telling
pub mod Crossings
mod Marking
pub use Rattle.live_book.proofs as of_live_book
pub use Rattle.live_laws.proofs as of_live_laws
pub use Rattle.query_workers.proofs.of_session_core
