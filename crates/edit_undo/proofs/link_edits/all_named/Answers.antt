use Rattle.link_graph.specs.Link.{names_item}
use Rattle.edit_undo.specs.Inner.Links.{again_from}
use Rattle.edit_undo.proofs.Joins.{link_step}
use Rattle.edit_undo.proofs.link_edits.all_named.Goals as goal

pub loop-place-preserved : goal.loop-place-preserved
loop-place-preserved c =
    link_step c.args.key.now (names_item c.args.id) c.args.links.now c.loop-place.place c.get.result.now c.loop-place.made c.put_link.new.made
    (again_from c.args.key.now (names_item c.args.id) 0 c.args.links.now) c.loop-place.invariant c.get.ensures c.in_ok-put_link.ensures
