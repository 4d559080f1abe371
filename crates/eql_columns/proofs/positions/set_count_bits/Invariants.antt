use Rattle.std.proofs.Common.{[], get_or, length}
use Rattle.eql_model.specs.Inner.Bits.{row_counts}
use Rattle.eql_columns.proofs.Bits.{IsFilled}
use Rattle.eql_columns.proofs.positions.set_count_bits.Given as goal

-- the bits of the rows so far
abbrev pub invariant-loop-upper : goal.invariant-loop-upper
invariant-loop-upper l = IsFilled (λ k. row_counts l.compare l.number (get_or l.rows k [])) l.made (length l.rows) l.upper
