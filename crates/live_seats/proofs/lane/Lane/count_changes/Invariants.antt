use Rattle.std.proofs.Common.{◌≡◌, ◌≤◌, ◌+◌, drop, length}
use Rattle.live_seats.specs.Inner.Seats.{changes_of}
use Rattle.live_seats.proofs.lane.Lane.count_changes.Given as goal

-- those counted, and those still to come
abbrev pub invariant-loop-line : goal.invariant-loop-line
invariant-loop-line l =
    (l.count + length (changes_of l.fn.self (drop l.line-index l.line-items)) ≡ length (changes_of l.fn.self l.fn.lines))
    × (l.count ≤ l.line-index)
