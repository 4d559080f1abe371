use Rattle.std.proofs.Common.{◌∙◌, ap, arith}
use Rattle.std.specs.List.{list_any}
use Rattle.link_graph.specs.Link.{joins}
use Rattle.link_graph.proofs.Few.{free_before, one_more}
use Rattle.link_graph.proofs.forms.indexed.Goals as goal

pub put-requires-clause-apart : goal.put-requires-clause-apart
put-requires-clause-apart c =
    let link = c.get.result.now in
    ap (list_any (joins link.from link.to)) c.loop-place.invariant ∙ free_before c.args.links.now c.loop-place.place link c.requires.apart c.get.ensures

pub loop-place-preserved : goal.loop-place-preserved
loop-place-preserved c =
    c.in_ok-put.ensures.ok ∙ one_more c.args.links.now c.loop-place.many c.loop-place.place c.get.result.now c.loop-place.invariant (omega (arith, c.loop-place-test.true, c.len-place-end.ensures)) c.get.ensures
