use Rattle.std.proofs.Common.{length, subst}
use Rattle.bundle_state.specs.Valid.{KeepsBundleRules}
use Rattle.eql_resolve.specs.Asked.{level_of}
use Rattle.eql_resolve.specs.Inner.View.{query_in}
use Rattle.eql_match.proofs.FoundBy.{sequence_of_rows}
use Rattle.eql_match.proofs.RowsBetween.{row_few}
use Rattle.eql_match.proofs.evaluate.sequence_by_rows.Goals as goal

pub follow-requires : goal.follow-requires
follow-requires c =
    row_few c.args.indexed.now.bundle (level_of (query_in c.args.left.now)) (length c.args.lefts.now)
    (subst KeepsBundleRules c.bundle.ensures c.item_count-items.ensures.rules) c.requires.lefts.2.0

pub returns-in-Ok : goal.returns-in-Ok
returns-in-Ok c =
    sequence_of_rows c.args.config.now c.args.indexed.now.bundle (query_in c.args.left.now) (query_in c.args.right.now)
    c.args.lefts.now c.args.rights.now c.in-Ok.made c.requires.lefts c.requires.rights
    (row_few c.args.indexed.now.bundle (level_of (query_in c.args.left.now)) (length c.args.lefts.now)
    (subst KeepsBundleRules c.bundle.ensures c.item_count-items.ensures.rules) c.requires.lefts.2.0)
    c.in-Ok.ensures
