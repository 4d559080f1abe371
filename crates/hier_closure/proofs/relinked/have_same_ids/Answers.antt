use Rattle.std.proofs.Common.{arith, sym, ◌∙◌}
use Rattle.std.proofs.lemmas.Bool.{eqb-true, not-false}
use Rattle.hier_closure.proofs.Stay.{ids_more}
use Rattle.hier_closure.proofs.relinked.have_same_ids.Goals as goal

pub loop-at-preserved : goal.loop-at-preserved
loop-at-preserved c =
    ids_more c.args.items.now c.args.others.now c.loop-at.at c.index-items-at.result c.index-others-at.result
    c.loop-at-test.true (omega arith)
    (eqb-true _ _ (not-false _ (sym c.ne.ensures ∙ c.if-ne.false)))
    c.loop-at.invariant
