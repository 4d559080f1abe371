use Rattle.std.proofs.Common.{option_copied}
use Rattle.bundle_state.proofs.FittedKept.{copied_at, can_fit_next, fitted_next}
use Rattle.bundle_state.proofs.fitted.fitted_levels.Goals as goal

pub fitted_level-requires : goal.fitted_level-requires
fitted_level-requires c =
    can_fit_next c.args.defs.now c.args.levels.now c.loop-number.number c.index-defs-number.result (option_copied c.get.result) c.requires c.loop-number-test.true c.index-defs-number.is
    (copied_at c.args.levels.now c.loop-number.number c.get.result c.get.ensures.lookup.3)

pub loop-number-preserved : goal.loop-number-preserved
loop-number-preserved c =
    fitted_next c.args.defs.now c.args.levels.now c.loop-number.number c.index-defs-number.result (option_copied c.get.result) c.loop-number.made c.push.new.self c.in_ok-level.level
    c.loop-number-test.true c.index-defs-number.is (copied_at c.args.levels.now c.loop-number.number c.get.result c.get.ensures.lookup.3) c.loop-number.invariant c.in_ok-level.ensures
    c.in_ok-push.ensures.ok
