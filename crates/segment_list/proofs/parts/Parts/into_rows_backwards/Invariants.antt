use Rattle.std.proofs.Common.{◌≡◌, ◌++◌, reverse, vec_len}
use Rattle.segment_list.specs.Merged.{rows_in_turn}
use Rattle.segment_list.proofs.parts.Parts.into_rows_backwards.Given as goal

abbrev pub invariant-loop-part : goal.invariant-loop-part
invariant-loop-part l = l.rows.items ++ reverse (rows_in_turn l.parts.items) ≡ reverse (rows_in_turn l.fn.self)

abbrev pub decreases-loop-part : goal.decreases-loop-part
decreases-loop-part l = vec_len l.parts
