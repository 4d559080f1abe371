use Rattle.eql_resolve.specs.Inner.View.{query_in}
use Rattle.eql_model.proofs.Fitting.{found_fit, level_there}
use Rattle.eql_match.proofs.FoundBy.{dominance_of_lists, dominance_over}
use Rattle.eql_match.proofs.Order.{found_rise}
use Rattle.eql_match.proofs.evaluate.dominance_by_lists.Goals as goal

pub dominance-requires-clause-left : goal.dominance-requires-clause-left
dominance-requires-clause-left c =
    level_there c.args.config.now c.args.indexed.now.bundle (query_in c.args.left.now) c.level.result c.requires.fits c.requires.left
    c.level.ensures

pub dominance-requires-clause-right : goal.dominance-requires-clause-right
dominance-requires-clause-right c =
    level_there c.args.config.now c.args.indexed.now.bundle (query_in c.args.right.now) c.level-2.result c.requires.fits c.requires.right
    c.level-2.ensures

pub dominance-requires-clause-lefts : goal.dominance-requires-clause-lefts
dominance-requires-clause-lefts c =
    found_fit c.args.config.now c.args.indexed.now.bundle (query_in c.args.left.now) c.level.result c.args.lefts.now c.requires.left_level
    c.level.ensures c.requires.lefts.0

pub dominance-requires-clause-rights : goal.dominance-requires-clause-rights
dominance-requires-clause-rights c =
    found_fit c.args.config.now c.args.indexed.now.bundle (query_in c.args.right.now) c.level-2.result c.args.rights.now
    c.requires.right_level c.level-2.ensures c.requires.rights.0

pub dominance-requires-clause-lefts_rise : goal.dominance-requires-clause-lefts_rise
dominance-requires-clause-lefts_rise c =
    found_rise c.args.config.now c.args.indexed.now.bundle (query_in c.args.left.now) c.args.lefts.now c.requires.lefts.0

pub dominance-requires-clause-rights_rise : goal.dominance-requires-clause-rights_rise
dominance-requires-clause-rights_rise c =
    found_rise c.args.config.now c.args.indexed.now.bundle (query_in c.args.right.now) c.args.rights.now c.requires.rights.0

pub returns-in-Ok : goal.returns-in-Ok
returns-in-Ok c =
    dominance_of_lists c.args.config.now c.args.indexed.now.bundle (query_in c.args.left.now) (query_in c.args.right.now)
    c.level.result c.level-2.result c.args.lefts.now c.args.rights.now c.in-Ok.made c.level.ensures c.level-2.ensures
    c.requires.lefts c.requires.rights c.in-Ok.ensures

pub returns-in-Err : goal.returns-in-Err
returns-in-Err c =
    dominance_over c.args.config.now c.args.indexed.now.bundle (query_in c.args.left.now) (query_in c.args.right.now)
    c.level.result c.level-2.result c.args.lefts.now c.args.rights.now c.in-Err.fault c.level.ensures c.level-2.ensures
    c.requires.lefts c.requires.rights c.in-Err.ensures
