use Rattle.std.proofs.Common.{arith}
use Rattle.link_graph.proofs.Joined.{count_more, count_fits}
use Rattle.link_graph.proofs.blocks.count_of.Goals as goal

pub overflow_add-total : goal.overflow_add-total
overflow_add-total c =
    let fits = count_fits c.args.blocks.now c.loop-block.block-index c.block-item.result c.loop-block-test.true c.block-item.is in
    let so_far = c.loop-block.invariant in
    let len = c.len-total.ensures in
    let limit = c.requires in
    omega arith

pub loop-block-preserved : goal.loop-block-preserved
loop-block-preserved c =
    count_more c.args.blocks.now c.loop-block.block-index c.block-item.result c.loop-block.total c.len-total.result c.loop-block-test.true c.block-item.is
    c.loop-block.invariant c.len-total.ensures
