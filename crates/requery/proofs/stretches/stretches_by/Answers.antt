use Rattle.requery.specs.Inner.Ways.{stretch_by}
use Rattle.requery.proofs.Lists.{found_step}
use Rattle.requery.proofs.stretches.stretches_by.Goals as goal

pub loop-span-preserved : goal.loop-span-preserved
loop-span-preserved c =
    found_step (stretch_by c.args.way.now) c.args.spans.now c.loop-span.span-index _ c.loop-span.made c.put_found.new.list
    c.stretch_by.result c.loop-span-test.true c.loop-span.invariant c.stretch_by.ensures c.in_ok-put_found.ensures
