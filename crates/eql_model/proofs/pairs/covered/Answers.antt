use Rattle.eql_model.proofs.Fitting.{wide_both, dominance_exit}
use Rattle.eql_model.proofs.pairs.covered.Goals as goal

pub joined-requires-clause-wide : goal.joined-requires-clause-wide
joined-requires-clause-wide c = wide_both c.args.bundle.now c.args.levels.0 c.args.levels.1 c.in-Ok.join c.in-Ok.ensures

pub returns : goal.returns
returns c =
    dominance_exit c.args.bundle.now c.args.levels.0 c.args.levels.1 c.in-Ok.join c.args.lefts.now c.args.rights.now c.joined.result
    c.in-Ok.ensures c.requires.lefts c.requires.rights c.joined.ensures
