use Rattle.std.proofs.Common.{subst}
use Rattle.bundle_state.specs.Valid.{KeepsBundleRules}
use Rattle.eql_resolve.specs.Inner.View.{query_in}
use Rattle.eql_match.proofs.FoundBy.{found_short}
use Rattle.eql_match.proofs.evaluate.sequence_found.Goals as goal

pub side_by_side-requires-clause-lefts : goal.side_by_side-requires-clause-lefts
side_by_side-requires-clause-lefts c =
    found_short c.args.lefts c.args.config.now c.args.indexed.now.bundle (query_in c.args.left.now)
    (subst KeepsBundleRules c.bundle.ensures c.item_count-items.ensures.rules) c.requires.lefts

pub side_by_side-requires-clause-rights : goal.side_by_side-requires-clause-rights
side_by_side-requires-clause-rights c =
    found_short c.args.rights c.args.config.now c.args.indexed.now.bundle (query_in c.args.right.now)
    (subst KeepsBundleRules c.bundle.ensures c.item_count-items.ensures.rules) c.requires.rights
