use Rattle.std.proofs.Common.{◌≡◌}
use Rattle.work_script.specs.Script.{each, segment_of}
use Rattle.work_script.proofs.annotation.segments.Given as goal

-- the segments so far
abbrev pub invariant-loop-segment : goal.invariant-loop-segment
invariant-loop-segment l = record { made : l.items ≡ each (segment_of l.number l.bundle) l.segment }
