use Rattle.std.proofs.Common.{◌≡◌, [], map, take, drop}
use Rattle.bundle_state.specs.Faults.{levels_fault}
use Rattle.level_items.specs.declared.annot.AnnotLevel.{AnnotLevel}
use Rattle.bundle_state.proofs.annot_rules.levels_pass.Given as goal

abbrev pub invariant-loop-place : goal.invariant-loop-place
invariant-loop-place l =
    levels_fault l.defs (map (λ (a : AnnotLevel). a.name) (take l.place l.levels)) l.taken (drop l.place l.levels)
    ≡ levels_fault l.defs [] [] l.fn.levels
