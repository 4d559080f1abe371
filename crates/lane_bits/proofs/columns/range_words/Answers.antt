use Rattle.std.proofs.Common.{arith}
use Rattle.lane_bits.specs.Inner.Row.{is_between}
use Rattle.lane_bits.proofs.Masks.{held_by_masks, held_with_rest}
use Rattle.lane_bits.proofs.columns.range_words.Goals as goal

pub returns-then-whole-words : goal.returns-then-whole-words
returns-then-whole-words c =
    held_with_rest (is_between c.args.low c.args.high) c.args.column.now c.loop-k.words c.range_rest.result (record { full = omega arith; tight = omega arith })
    (λ k below. c.loop-k.invariant k (omega arith)) c.if-whole-words.true c.range_rest.ensures

pub returns-else-whole-words : goal.returns-else-whole-words
returns-else-whole-words c =
    held_by_masks (is_between c.args.low c.args.high) c.args.column.now c.loop-k.words (record { full = omega arith; tight = omega arith }) (λ k below. c.loop-k.invariant k (omega arith))
