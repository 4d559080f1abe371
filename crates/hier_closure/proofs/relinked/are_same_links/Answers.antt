use Rattle.std.proofs.Common.{sym, ◌∙◌}
use Rattle.std.proofs.lemmas.Bool.{not-false}
use Rattle.hier_closure.proofs.Stay.{link_is, links_more}
use Rattle.hier_closure.proofs.relinked.are_same_links.Goals as goal

pub loop-place-preserved : goal.loop-place-preserved
loop-place-preserved c =
    links_more c.args.links.now c.args.others.now c.loop-place.place c.get.result.now c.get-in-loop-place.result.now
    c.get.ensures c.get-in-loop-place.ensures
    (link_is c.get.result.now c.get-in-loop-place.result.now (not-false _ (sym c.ne.ensures ∙ c.if-ne.false)))
    c.loop-place.invariant
