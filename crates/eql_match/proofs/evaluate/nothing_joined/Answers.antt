use Rattle.std.proofs.Common.{subst}
use Rattle.bundle_state.specs.Valid.{KeepsBundleRules}
use Rattle.eql_resolve.specs.Inner.View.{query_in}
use Rattle.eql_match.proofs.FewTuples.{nothing_dominates, nothing_follows}
use Rattle.eql_match.proofs.evaluate.nothing_joined.Goals as goal

pub returns-clause-sequence : goal.returns-clause-sequence
returns-clause-sequence c =
    nothing_follows c.args.config.now c.args.indexed.now.bundle (query_in c.args.left.now) (query_in c.args.right.now) c.args.lefts
    c.new.result (subst KeepsBundleRules c.bundle.ensures c.item_count-items.ensures.rules) c.requires.nothing c.requires.few
    c.requires.lefts c.new.ensures

pub returns-clause-dominance : goal.returns-clause-dominance
returns-clause-dominance c =
    nothing_dominates c.args.config.now c.args.indexed.now.bundle (query_in c.args.left.now) (query_in c.args.right.now) c.args.lefts
    c.new.result (subst KeepsBundleRules c.bundle.ensures c.item_count-items.ensures.rules) c.requires.nothing c.requires.few
    c.requires.lefts c.new.ensures
