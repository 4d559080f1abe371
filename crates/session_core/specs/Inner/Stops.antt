-- Where a run of the core stops for want of memory.
use Rattle.std.specs.Prelude.{◌≡◌, ◌≤◌, ◌⊎◌, ℕ, List, Some, length, take, slice_get}
use Rattle.session_core.specs.declared.event.Event.{Event}
use Rattle.session_core.specs.Steps.{State, core_fails, steps}

-- the state after the first events of a list
abbrev pub state_at : State → List Event → ℕ → State
state_at st events count = (steps st (take count events)).1

-- the event at this place is the one at which memory runs out
pub record FailsAt (st : State) (events : List Event) (count : ℕ) (new : State) : Type 0 where
  pub event : Event
  pub is_next : slice_get events count ≡ Some event
  pub closed : new ≡ (core_fails (state_at st events count) event).1

-- a run that stops leaves the state after the first events of its list, but that a query under way
-- is closed where memory ran out at its answer
pub record StopsAt (st : State) (events : List Event) (new : State) : Type 0 where
  pub count : ℕ
  pub within : count ≤ length events
  pub state : (new ≡ state_at st events count) ⊎ FailsAt st events count new
