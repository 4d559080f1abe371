use Rattle.std.proofs.Common.{◌≤◌, drop, false}
use Rattle.segment_list.specs.Inner.Listing.{HasTaken, in_turn}
use Rattle.segment_list.specs.Inner.Pieces.{row_texts}
use Rattle.segment_list.proofs.listing.write_parts.Given as goal

-- the parts so far are written, and the count of faults never fell
abbrev pub invariant-loop-part : goal.invariant-loop-part
invariant-loop-part g l =
    record {
      taken : HasTaken (g.K.Sink.written l.fn.out) (g.K.Sink.written l.out)
          (row_texts l.later (in_turn (drop l.part-index l.parts))) (row_texts false (in_turn l.parts));
      later : g.K.Sink.faults l.fn.out ≤ g.K.Sink.faults l.out;
    }
