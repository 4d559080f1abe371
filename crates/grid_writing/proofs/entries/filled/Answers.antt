use Rattle.std.proofs.Common.{arith}
use Rattle.grid_writing.proofs.Loops.{last_below}
use Rattle.grid_writing.proofs.entries.filled.Goals as goal

pub last_sample-from-requires : goal.last_sample-from-requires
last_sample-from-requires c =
    let low = last_below c.args.end c.loop-item.from c.loop-item.item-index c.args.items.now c.item-item.result c.loop-item-test.true c.item-item.is c.loop-item.invariant.within in
    omega (arith, low, c.requires.end)

pub overflow_add-from : goal.overflow_add-from
overflow_add-from c =
    let low = last_below c.args.end c.loop-item.from c.loop-item.item-index c.args.items.now c.item-item.result c.loop-item-test.true c.item-item.is c.loop-item.invariant.within in
    omega (arith, low, c.requires.end, c.last_sample-from.ensures)
