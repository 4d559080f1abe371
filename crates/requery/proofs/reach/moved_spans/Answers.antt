use Rattle.requery.specs.Reach.{moved}
use Rattle.requery.proofs.Lists.{found_step}
use Rattle.requery.proofs.reach.moved_spans.Goals as goal

pub loop-span-preserved : goal.loop-span-preserved
loop-span-preserved c =
    found_step (moved c.args.count c.args.shift) c.args.spans.now c.loop-span.span-index _ c.loop-span.made c.put_found.new.list
    c.moved.result c.loop-span-test.true c.loop-span.invariant c.moved.ensures c.in_ok-put_found.ensures
