use Rattle.eql_resolve.specs.Inner.View.{query_in}
use Rattle.eql_model.proofs.Fitting.{found_fit, level_there}
use Rattle.eql_model.proofs.evaluate.dominance_tuples.Goals as goal

pub covered-requires-clause-left : goal.covered-requires-clause-left
covered-requires-clause-left c =
    level_there c.args.config.now c.args.bundle.now (query_in c.args.left.now) c.level.result c.requires.fits c.requires.left c.level.ensures

pub covered-requires-clause-right : goal.covered-requires-clause-right
covered-requires-clause-right c =
    level_there c.args.config.now c.args.bundle.now (query_in c.args.right.now) c.level-2.result c.requires.fits c.requires.right
    c.level-2.ensures

pub covered-requires-clause-lefts : goal.covered-requires-clause-lefts
covered-requires-clause-lefts c =
    found_fit c.args.config.now c.args.bundle.now (query_in c.args.left.now) c.level.result c.args.lefts.now c.requires.left_level
    c.level.ensures c.requires.lefts

pub covered-requires-clause-rights : goal.covered-requires-clause-rights
covered-requires-clause-rights c =
    found_fit c.args.config.now c.args.bundle.now (query_in c.args.right.now) c.level-2.result c.args.rights.now c.requires.right_level
    c.level-2.ensures c.requires.rights
