use Rattle.std.proofs.Common.{◌≡◌, ◌++◌, drop, false, string_bytes}
use Rattle.segment_list.specs.Inner.Listing.{in_turn}
use Rattle.segment_list.specs.Inner.Pieces.{row_texts}
use Rattle.segment_list.proofs.listing.push_parts.Given as goal

abbrev pub invariant-loop-part : goal.invariant-loop-part
invariant-loop-part l =
    string_bytes l.out ++ row_texts l.later (in_turn (drop l.part-index l.parts))
    ≡ string_bytes l.fn.out ++ row_texts false (in_turn l.parts)
