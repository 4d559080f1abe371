mod Joins
mod Queues
mod Sessions
mod Laid
mod Gathered
mod Regrouped
mod Wholes
mod Joining
mod Rooming
mod Crossings
mod Gathers
mod Settled
pub use Rattle.edit_rules.proofs as of_edit_rules
pub use Rattle.live_seats.proofs.of_live_book
pub use Rattle.live_seats.proofs.of_session_core
