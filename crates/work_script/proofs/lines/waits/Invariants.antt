use Rattle.std.proofs.Common.{◌≡◌}
use Rattle.work_script.specs.Script.{each}
use Rattle.work_script.specs.Inner.Script.{wait_of}
use Rattle.work_script.proofs.lines.waits.Given as goal

-- the waits so far
abbrev pub invariant-loop-other : goal.invariant-loop-other
invariant-loop-other l = record { made : l.lines ≡ each (wait_of l.bundles) l.other }
