use Rattle.std.proofs.Common.{◌≡◌}
use Rattle.work_script.specs.Script.{each, link_to}
use Rattle.work_script.proofs.annotation.links.Given as goal

-- the links so far
abbrev pub invariant-loop-segment : goal.invariant-loop-segment
invariant-loop-segment l = record { made : l.links ≡ each link_to l.segment }
