use Rattle.hier_closure.proofs.Passes.{made_as}
use Rattle.hier_closure.proofs.levels.level_closure.Goals as goal

pub returns : goal.returns
returns c = made_as c.of.result _ _ c.of.ensures c.in_ok-rows.ensures

pub returns-in-Some : goal.returns-in-Some
returns-in-Some c =
    made_as c.copy.result _ _ c.copy.ensures (c.in-Some.ensures c.args.bundle.now c.requires.under.fits c.requires.kept)
