use Rattle.std.proofs.Common.{◌<◌, ◌≤◌}
use Rattle.live_run.proofs.room.count_seats.Given as goal

abbrev pub invariant-loop-line : goal.invariant-loop-line
invariant-loop-line l = (0 < l.seats) × (l.seats ≤ 16)
