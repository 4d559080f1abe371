use Rattle.link_graph.proofs.Placed.{stands_there}
use Rattle.link_graph.proofs.blocks.block_at.Goals as goal

pub returns : goal.returns
returns c = stands_there c.args.blocks.now c.args.place c.loop-before.block c.loop-before.before c.loop-before.invariant c.loop-before-test.false
