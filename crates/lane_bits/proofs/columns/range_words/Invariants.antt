use Rattle.lane_bits.specs.Inner.Row.{is_between}
use Rattle.lane_bits.proofs.Masks.{AreMasks}
use Rattle.lane_bits.proofs.columns.range_words.Given as goal

abbrev pub invariant-loop-k : goal.invariant-loop-k
invariant-loop-k l = AreMasks (is_between l.low l.high) l.column l.words l.k
