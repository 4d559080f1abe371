use Rattle.std.proofs.Common.{◌==◌, arith}
use Rattle.lane_bits.proofs.Masks.{held_by_masks, held_with_rest}
use Rattle.lane_bits.proofs.columns.eq_words.Goals as goal

pub returns-then-whole-words : goal.returns-then-whole-words
returns-then-whole-words c =
    held_with_rest (λ x. x == c.args.label) c.args.column.now c.loop-k.words c.eq_rest.result (record { full = omega arith; tight = omega arith })
    (λ k below. c.loop-k.invariant k (omega arith)) c.if-whole-words.true c.eq_rest.ensures

pub returns-else-whole-words : goal.returns-else-whole-words
returns-else-whole-words c =
    held_by_masks (λ x. x == c.args.label) c.args.column.now c.loop-k.words (record { full = omega arith; tight = omega arith }) (λ k below. c.loop-k.invariant k (omega arith))
