use Rattle.edit_undo.proofs.Joins.{pair_more}
use Rattle.edit_undo.proofs.annot.given_links.Goals as goal

pub loop-place-preserved : goal.loop-place-preserved
loop-place-preserved c =
    pair_more c.args.links.now c.loop-place.place c.get-link.result.now c.loop-place.made c.push.new.self c.loop-place.invariant c.get-link.ensures c.in_ok-push.ensures.ok
