use Rattle.std.proofs.Common.{◌≡◌, ◌≤◌, length, drop, All}
use Rattle.left_right.specs.Sides.{view as seat_view}
use Rattle.version_gate.specs.Lists.{front}
use Rattle.version_gate.proofs.gate.take_seats.Given as goal

-- all passes so far have seen the list, and the writer shows and knows what it did
abbrev pub invariant-loop : goal.invariant-loop
invariant-loop g l = All (λ p. p ≡ front l.seen.book l.seen.log) l.passes × (length l.passes ≤ l.counter)
    × (l.writer.desk.shown.value ≡ l.fn.writer.desk.shown.value)
    × (drop l.writer.behind l.writer.log.items ≡ drop l.fn.writer.behind l.fn.writer.log.items)
    × (seat_view l.writer.desk.place ≡ seat_view l.fn.writer.desk.place)
