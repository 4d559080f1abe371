use Rattle.std.proofs.Common.{◌≡◌, [], map, take, drop}
use Rattle.bundle_state.specs.Faults.{labels_fault}
use Rattle.level_items.specs.declared.annot.AnnotLabel.{AnnotLabel}
use Rattle.bundle_state.proofs.annot_rules.labels_pass.Given as goal

abbrev pub invariant-loop-place : goal.invariant-loop-place
invariant-loop-place l =
    labels_fault l.defs (map (λ (a : AnnotLabel). a.name) (take l.place l.labels)) (drop l.place l.labels)
    ≡ labels_fault l.defs [] l.fn.labels
