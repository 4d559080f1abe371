use Rattle.std.proofs.Common.{◌≡◌, length, take}
use Rattle.live_seats.specs.session_core.Legal.{lines_of_session}
use Rattle.live_run.proofs.grouping.count_lines.Given as goal

-- the lines so far are counted
abbrev pub invariant-loop-line : goal.invariant-loop-line
invariant-loop-line l = l.count ≡ length (lines_of_session l.session (take l.line-index l.line-items))
