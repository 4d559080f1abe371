-- The marks of a live run's changes, as the crates above read them.
pub use Rattle.live_seats.specs.Marks.{marks_from}
pub use Rattle.live_seats.specs.declared.marks.Mark.{Mark}
