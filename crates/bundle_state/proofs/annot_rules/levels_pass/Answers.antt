use Rattle.std.proofs.Common.{◌∙◌, arith}
use Rattle.bundle_state.proofs.FaultSteps.{levels_walk}
use Rattle.bundle_state.proofs.annot_rules.levels_pass.Goals as goal

pub loop-place-preserved : goal.loop-place-preserved
loop-place-preserved c =
    levels_walk c.args.defs.now c.args.levels.now c.loop-place.place c.index-levels-place.result c.loop-place.taken c.level_passes.new.taken
    (omega arith) c.index-levels-place.is c.in_ok-level_passes.ensures.fault (record { at = c.in_ok-level_passes.ensures.taken })
    ∙ c.loop-place.invariant
