use Rattle.link_graph.specs.declared.link.Link.{Link}
use Rattle.link_graph.specs.Index.{is_pair}
use Rattle.link_graph.proofs.Steps.{unpaired_step}
use Rattle.link_graph.proofs.index.forget_pairs.Goals as goal

abbrev no_link : Link
no_link = record { definition = 0; from = record { 0 = 0 }; to = record { 0 = 0 } }

pub loop-link-preserved : goal.loop-link-preserved
loop-link-preserved c a b =
    unpaired_step (is_pair a b) c.args.links.now c.loop-link.link-index no_link _ _ _ c.loop-link-test.true (c.loop-link.invariant a b) (c.remove.ensures a b)
