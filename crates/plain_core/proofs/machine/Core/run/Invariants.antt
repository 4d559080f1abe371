use Rattle.std.proofs.Common.{◌≡◌, ◌<◌, length}
use Rattle.std.specs.List.{All}
use Rattle.session_core.specs.declared.event.Event.{Event}
use Rattle.session_core.specs.Steps.{State, session_places, steps}
use Rattle.session_core.specs.Inner.Steps.{place_of}
use Rattle.session_core.specs.Inner.Stops.{StopsAt}
use Rattle.plain_core.proofs.Turning.{behind}
use Rattle.plain_core.proofs.machine.Core.run.Given as goal

abbrev pub invariant-loop-event : goal.invariant-loop-event
invariant-loop-event l = record {
  places : All (λ (event : Event). place_of event < session_places) l.events.items;
  made : behind l.replies (steps l.self l.events.items) ≡ steps l.fn.self l.fn.events.items;
  stops : (new : State) → StopsAt l.self l.events.items new → StopsAt l.fn.self l.fn.events.items new;
}

abbrev pub decreases-loop-event : goal.decreases-loop-event
decreases-loop-event l = length l.events.items
