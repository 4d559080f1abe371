use Rattle.std.proofs.Common.{◌≡◌}
use mathlib.Core.List.{IsPrefix}
use Rattle.live_seats.proofs.line.look_past.Given as goal

-- the pass's list goes on
abbrev pub invariant-loop : goal.invariant-loop
invariant-loop g l = (goal.iterator-loop g).can_next l.iterator' × (goal.iterator-loop g).is_finite l.iterator'
    × (l.pass.gate ≡ l.fn.pass.gate) × IsPrefix l.fn.pass.list l.pass.list
