use Rattle.std.proofs.Common.{◌==◌, arith}
use Rattle.lane_bits.proofs.Masks.{rest_few, bit_small}
use Rattle.lane_bits.proofs.columns.eq_singly.Goals as goal

pub overflow_mul-word : goal.overflow_mul-word
overflow_mul-word c =
    let few = rest_few (λ x. x == c.args.label) c.args.column.now c.loop-at.at c.loop-at.word c.loop-at.invariant.same (omega arith) in omega arith

pub overflow_add-word : goal.overflow_add-word
overflow_add-word c =
    let few = rest_few (λ x. x == c.args.label) c.args.column.now c.loop-at.at c.loop-at.word c.loop-at.invariant.same (omega arith) in
    omega (arith, bit_small)
