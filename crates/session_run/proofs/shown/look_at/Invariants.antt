use Rattle.std.proofs.Common.{◌≡◌}
use mathlib.Core.List.{IsPrefix}
use Rattle.session_run.proofs.shown.look_at.Given as goal

-- the pass has at least what the book has published
abbrev pub invariant-loop : goal.invariant-loop
invariant-loop g l = (goal.iterator-loop g).can_next l.iterator' × (goal.iterator-loop g).is_finite l.iterator'
    × (l.book ≡ l.fn.book) × (l.pass.gate ≡ l.fn.pass.gate) × IsPrefix l.fn.book.list l.pass.list
