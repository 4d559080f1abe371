use Rattle.std.proofs.Common.{sym}
use Rattle.bundle_edits.proofs.Steps.{position_low}
use Rattle.bundle_edits.proofs.segments.segment_of.Goals as goal

pub returns-in-Some-segment_at-clause-place : goal.returns-in-Some-segment_at-clause-place
returns-in-Some-segment_at-clause-place c =
    position_low c.args.bundle.now (c.in-Some.level, c.in-Some.position) c.in-Some-segment_at.segment c.item_count-count.ensures.rules (sym c.in-Some-segment_at.ensures.segment)
