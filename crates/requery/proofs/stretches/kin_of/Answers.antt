use Rattle.std.proofs.Common.{◌+◌, None, get_or}
use Rattle.requery.specs.Inner.Ways.{positions_of, union_over}
use Rattle.requery.proofs.KinFound.{over_next}
use Rattle.requery.proofs.stretches.kin_of.Goals as goal

pub loop-item-preserved : goal.loop-item-preserved
loop-item-preserved c =
    over_next (λ i. get_or c.args.stretches.now i None) c.loop-item.item (c.args.span.last + 1) c.loop-item.found c.union-found.result
    (union_over (λ i. get_or c.args.stretches.now i None) (positions_of c.args.span)) c.loop-item-test.true c.union-found.ensures
    c.loop-item.invariant
