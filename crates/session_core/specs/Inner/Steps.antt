-- Words of contracts and loops beside `specs/Steps.antt`; no promise of the program rests on them.
use Rattle.std.specs.Prelude.{ℕ}
use Rattle.session_core.specs.declared.event.Event.{Event}
use Rattle.session_core.specs.declared.event.Event.TheVariants as events

-- the place of an event's session
abbrev pub place_of : Event → ℕ
place_of (events.Edit l) = l.session.0
place_of (events.Look l) = l.session.0
place_of (events.Piece s) = s.0
place_of (events.Finish line s command) = s.0
