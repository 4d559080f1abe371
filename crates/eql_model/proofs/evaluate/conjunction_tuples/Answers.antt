use Rattle.std.proofs.Common.{map}
use Rattle.eql_resolve.specs.Inner.View.{term_in}
use Rattle.eql_model.proofs.Fitting.{conditions_on, conjunction_finds}
use Rattle.eql_model.proofs.evaluate.conjunction_tuples.Goals as goal

pub conjunction-requires-clause-terms : goal.conjunction-requires-clause-terms
conjunction-requires-clause-terms c =
    conditions_on c.args.config.now c.args.level term_in c.args.conditions.now c.requires.level c.requires.within c.requires.one_level

pub returns-in-Ok : goal.returns-in-Ok
returns-in-Ok c =
    conjunction_finds c.args.config.now c.args.bundle.now (map term_in c.args.conditions.now) c.args.level c.in-Ok.made c.requires.level
    c.item_count-items.ensures.rules c.in-Ok.ensures
