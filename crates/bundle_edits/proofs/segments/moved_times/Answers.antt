use Rattle.bundle_edits.proofs.Steps.{back_is, on_is}
use Rattle.bundle_edits.proofs.segments.moved_times.Goals as goal

pub returns-then-start-next : goal.returns-then-start-next
returns-then-start-next c =
    back_is c.args.bundle.now c.item_count-count.ensures.rules c.args.id c.in_ok-s.s c.in_ok-next.next c.in_ok-s.ensures.segment c.in_ok-next.ensures.segment c.last-last.result c.args.start
    c.last-last.ensures c.in_ok-cut_passes.ensures c.if-start-next.true

pub returns : goal.returns
returns c =
    on_is c.args.bundle.now c.item_count-count.ensures.rules c.args.id c.in_ok-s.s c.in_ok-next.next c.in_ok-s.ensures.segment c.in_ok-next.ensures.segment c.last-last.result c.args.start
    c.last-last.ensures c.in_ok-cut_passes.ensures c.if-start-next.false
