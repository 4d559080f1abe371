use Rattle.std.proofs.Common.{◌≡◌, [], take, drop}
use Rattle.bundle_state.specs.Labels.{new_labels_fault}
use Rattle.bundle_state.specs.Rules.{label_names}
use Rattle.bundle_state.proofs.labels.new_labels_pass.Given as goal

abbrev pub invariant-loop-place : goal.invariant-loop-place
invariant-loop-place l =
    new_labels_fault l.is_tested l.defs (label_names (take l.place l.labels)) (drop l.place l.labels) ≡ new_labels_fault l.is_tested l.defs [] l.fn.labels
