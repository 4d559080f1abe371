use Rattle.std.proofs.Common.{reverse}
use Rattle.segment_list.specs.Merged.{rows_in_turn}
use Rattle.segment_list.proofs.Backwards.{part_moved}
use Rattle.segment_list.proofs.parts.Parts.into_rows_backwards.Goals as goal

pub loop-part-preserved : goal.loop-part-preserved
loop-part-preserved c =
    part_moved c.loop-part.rows.items c.push_backwards.new.out.items (reverse
    (rows_in_turn c.args.self)) c.loop-part.parts.items
    c.pop.new.self.items c.pop.result c.in-Some.part c.in-Some.is c.pop.ensures.items
    c.in_ok-push_backwards.ensures c.loop-part.invariant
