use Rattle.bundle_edits.proofs.Steps.{merge_is}
use Rattle.bundle_edits.proofs.segments.joined_time.Goals as goal

pub returns : goal.returns
returns c =
    merge_is c.args.bundle.now c.item_count-count.ensures.rules c.args.id c.in_ok-s.s c.in_ok-next.next c.in_ok-s.ensures.segment c.in_ok-next.ensures.segment c.last.result c.last.ensures
