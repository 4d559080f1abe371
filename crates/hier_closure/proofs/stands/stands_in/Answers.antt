use Rattle.std.proofs.Common.{arith}
use Rattle.hier_closure.proofs.Places.{stands_copy, stood_more, stood_all}
use Rattle.hier_closure.proofs.stands.stands_in.Goals as goal

pub loop-level-preserved : goal.loop-level-preserved
loop-level-preserved c =
    stood_more c.args.bundle.now c.loop-level.level c.loop-level.all c.push.new.self c.in_ok-one.one c.loop-level.invariant
    c.in_ok-one.ensures c.in_ok-push.ensures.ok

pub returns : goal.returns
returns c =
    stands_copy c.args.bundle.now c.loop-level.all c.new.result c.new.ensures
    (stood_all c.args.bundle.now c.loop-level.level c.loop-level.all c.item_count-items.ensures.rules (omega arith) c.loop-level.invariant)
