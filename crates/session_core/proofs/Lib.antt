pub mod Undoing
pub mod Rising
pub mod Turns
pub mod Places
pub mod SlotPlaces
pub mod Seats
pub mod Events
pub mod Runs
pub mod Worked
pub mod Asking
pub mod OfCommand
pub mod Alone
pub mod Standing
pub mod Ordered
pub mod RowLists
pub mod Keeping
pub mod ReadingSteps
pub mod Readings
pub mod Threads
pub use Rattle.requery.proofs as of_requery
pub use Rattle.segment_list.proofs as of_segment_list
