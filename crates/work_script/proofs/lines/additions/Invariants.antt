use Rattle.std.proofs.Common.{◌≡◌}
use Rattle.work_script.specs.Script.{each}
use Rattle.work_script.specs.Inner.Script.{adding}
use Rattle.work_script.proofs.lines.additions.Given as goal

-- the additions so far
abbrev pub invariant-loop-bundle : goal.invariant-loop-bundle
invariant-loop-bundle l = record { made : l.lines ≡ each (adding l.number) l.bundle }
