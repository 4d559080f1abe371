use Rattle.std.proofs.Common.{◌∙◌, sym}
use Rattle.link_graph.proofs.PairPlaces.{pair_passed}
use Rattle.link_graph.proofs.blocks.find_from.Goals as goal

pub loop-at-preserved : goal.loop-at-preserved
loop-at-preserved c =
    pair_passed c.args.from c.args.to c.args.blocks.now c.index-blocks-at.result c.as_slice.result.now c.loop-at.at c.place_of.result c.loop-at-test.true
    c.index-blocks-at.is c.as_slice.ensures c.place_of.ensures (sym c.is_some.ensures ∙ c.if-is_some.false)
    ∙ c.loop-at.invariant
