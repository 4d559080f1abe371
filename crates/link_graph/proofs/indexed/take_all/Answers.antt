use Rattle.std.proofs.Common.{subst, sym}
use Rattle.link_graph.specs.declared.link.Link.{Link}
use Rattle.link_graph.specs.Link.{ArePairsApart}
use Rattle.link_graph.specs.Inner.Blocks.{joined}
use Rattle.link_graph.proofs.Kept.{distinct_filter}
use Rattle.link_graph.proofs.Steps.{taken_none, taken_step}
use Rattle.link_graph.proofs.indexed.take_all.Goals as goal

abbrev no_link : Link
no_link = record { definition = 0; from = record { 0 = 0 }; to = record { 0 = 0 } }

pub loop-link-init : goal.loop-link-init
loop-link-init c = record { left = taken_none (joined c.args.blocks.now.items); apart = c.requires }

pub loop-link-preserved : goal.loop-link-preserved
loop-link-preserved c = record {
  left = taken_step c.args.ends.now _ _ _ c.loop-link.link-index no_link c.loop-link-test.true c.loop-link.invariant.left c.take_found.ensures;
  apart = subst ArePairsApart (sym c.take_found.ensures) (distinct_filter _ _ _ c.loop-link.invariant.apart);
}
