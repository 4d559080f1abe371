use Rattle.std.proofs.Common.{◌==◌}
use Rattle.lane_bits.proofs.Masks.{AreMasks}
use Rattle.lane_bits.proofs.columns.eq_words.Given as goal

abbrev pub invariant-loop-k : goal.invariant-loop-k
invariant-loop-k l = AreMasks (λ x. x == l.label) l.column l.words l.k
