use Rattle.std.proofs.Common.{◌≡◌, ◌≤◌, ◌++◌, drop, length}
use Rattle.query_workers.specs.session_core.Legal.{lines_in}
use Rattle.live_laws.specs.Lanes.{turns_of}
use Rattle.live_seats.specs.Inner.Seats.{lines_of}
use Rattle.live_seats.proofs.seat.Seat.take_lines.Given as goal

-- the lines that were answered, and those still to come, for which there is room
abbrev pub invariant-loop-line : goal.invariant-loop-line
invariant-loop-line g l =
    (lines_in (turns_of l.self.steps) ++ lines_of l.fn.lane (drop l.line-index l.line-items) ≡ lines_of l.fn.lane l.fn.lines)
    × (length (lines_of l.fn.lane (drop l.line-index l.line-items)) ≤ l.self.room)
    × (l.self.count.parts ≡ l.fn.self.count.parts)
