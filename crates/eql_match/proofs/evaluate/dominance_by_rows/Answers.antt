use Rattle.std.proofs.Common.{length, ap, sym, subst, ◌∙◌}
use Rattle.bundle_state.specs.Valid.{KeepsBundleRules}
use Rattle.eql_resolve.specs.Asked.{level_of}
use Rattle.eql_resolve.specs.Inner.View.{query_in}
use Rattle.level_items.specs.Levels.{items_at}
use Rattle.eql_model.proofs.Fitting.{level_there}
use Rattle.eql_match.proofs.FoundBy.{dominance_of_rows}
use Rattle.eql_match.proofs.RowsBetween.{row_few}
use Rattle.eql_match.proofs.evaluate.dominance_by_rows.Goals as goal

pub dominating-requires-clause-left : goal.dominating-requires-clause-left
dominating-requires-clause-left c =
    level_there c.args.config.now c.args.indexed.now.bundle (query_in c.args.left.now) c.level.result c.requires.fits c.requires.left
    c.level.ensures

pub dominating-requires-clause-right : goal.dominating-requires-clause-right
dominating-requires-clause-right c =
    level_there c.args.config.now c.args.indexed.now.bundle (query_in c.args.right.now) c.level-2.result c.requires.fits c.requires.right
    c.level-2.ensures

pub dominating-requires-clause-lefts : goal.dominating-requires-clause-lefts
dominating-requires-clause-lefts c =
    c.requires.lefts.2.0 ∙ ap (λ n. length (items_at c.args.indexed.now.bundle.levels n)) (sym c.level.ensures)

pub dominating-requires-clause-rights : goal.dominating-requires-clause-rights
dominating-requires-clause-rights c =
    c.requires.rights.2.0 ∙ ap (λ n. length (items_at c.args.indexed.now.bundle.levels n)) (sym c.level-2.ensures)

pub returns-in-Ok : goal.returns-in-Ok
returns-in-Ok c =
    dominance_of_rows c.args.config.now c.args.indexed.now.bundle (query_in c.args.left.now) (query_in c.args.right.now)
    c.level.result c.level-2.result c.args.lefts.now c.args.rights.now c.in-Ok.made c.level.ensures c.level-2.ensures
    c.requires.lefts c.requires.rights
    (row_few c.args.indexed.now.bundle (level_of (query_in c.args.left.now)) (length c.args.lefts.now)
    (subst KeepsBundleRules c.bundle.ensures c.item_count-items.ensures.rules) c.requires.lefts.2.0)
    c.in-Ok.ensures
