use Rattle.std.proofs.Common.{◌∙◌, sym, arith, take, []}
use Rattle.bundle_state.proofs.FaultSteps.{stops}
use Rattle.bundle_state.specs.Labels.{new_labels_fault}
use Rattle.bundle_state.specs.Rules.{label_names}
use Rattle.bundle_state.proofs.LabelSteps.{one, labels_walk, labels_stop}
use Rattle.bundle_state.proofs.labels.new_labels_pass.Goals as goal

pub returns-in-Err : goal.returns-in-Err
returns-in-Err c =
    stops (Unit {0}) (Unit {0}) c.in-Err.fault
    (one c.args.is_tested c.args.defs.now (label_names (take c.loop-place.place c.args.labels.now)) c.index-labels-place.result)
    (new_labels_fault c.args.is_tested c.args.defs.now [] c.args.labels.now)
    (λ r bad. sym c.loop-place.invariant
    ∙ labels_stop c.args.is_tested c.args.defs.now c.args.labels.now c.loop-place.place c.index-labels-place.result r (omega arith) c.index-labels-place.is bad)
    c.in-Err.ensures

pub loop-place-preserved : goal.loop-place-preserved
loop-place-preserved c =
    labels_walk c.args.is_tested c.args.defs.now c.args.labels.now c.loop-place.place c.index-labels-place.result (omega arith) c.index-labels-place.is c.in-Ok.ensures
    ∙ c.loop-place.invariant
