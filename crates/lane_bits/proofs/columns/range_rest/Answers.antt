use Rattle.std.proofs.Common.{arith}
use Rattle.lane_bits.specs.Inner.Row.{is_between}
use Rattle.lane_bits.proofs.Masks.{rest_few, bit_small}
use Rattle.lane_bits.proofs.columns.range_rest.Goals as goal

pub overflow_mul-word : goal.overflow_mul-word
overflow_mul-word c =
    let few = rest_few (is_between c.args.low c.args.high) c.args.column.now c.loop-at.at c.loop-at.word c.loop-at.invariant.same (omega arith) in omega arith

pub overflow_add-word : goal.overflow_add-word
overflow_add-word c =
    let few = rest_few (is_between c.args.low c.args.high) c.args.column.now c.loop-at.at c.loop-at.word c.loop-at.invariant.same (omega arith) in
    omega (arith, bit_small)
