use Rattle.std.proofs.Common.{map, subst}
use Rattle.bundle_state.specs.Valid.{KeepsBundleRules}
use Rattle.eql_resolve.specs.Inner.View.{term_in}
use Rattle.eql_model.proofs.Fitting.{conditions_on}
use Rattle.eql_match.proofs.FoundBy.{conjunction_is}
use Rattle.eql_match.proofs.evaluate.conjunction_found.Goals as goal

pub conjunction-requires-clause-terms : goal.conjunction-requires-clause-terms
conjunction-requires-clause-terms c =
    conditions_on c.args.config.now c.args.level term_in c.args.conditions.now c.requires.level c.requires.within c.requires.one_level

pub returns-in-Ok : goal.returns-in-Ok
returns-in-Ok c =
    conjunction_is c.args.config.now c.args.indexed.now.bundle (map term_in c.args.conditions.now) c.args.level c.args.marked c.in-Ok.made
    c.requires.level c.requires.marked (subst KeepsBundleRules c.bundle.ensures c.item_count-items.ensures.rules) c.in-Ok.ensures.tuples
    c.in-Ok.ensures.row
