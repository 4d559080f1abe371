use Rattle.std.proofs.Common.{◌-◌, arith}
use Rattle.lane_bits.proofs.Places.{last_found, none_found, place_fits}
use Rattle.lane_bits.proofs.bits.last_set.Goals as goal

pub overflow_mul-result : goal.overflow_mul-result
overflow_mul-result c =
    let fits = place_fits c.args.words.now c.args.len (c.loop-k.k - 1) c.requires c.ranges.len.fits (omega arith) in omega arith

pub overflow_add-result : goal.overflow_add-result
overflow_add-result c =
    let top = c.ilog2.ensures in
    let found = last_found c.args.words.now c.args.len (c.loop-k.k - 1) c.ilog2.result c.requires (λ j behind. c.loop-k.invariant.clear j (omega arith)) top.power_le top.next_power_gt top.bound in
    let within = found.0 in omega arith

pub returns-then-word-gt0 : goal.returns-then-word-gt0
returns-then-word-gt0 c =
    let top = c.ilog2.ensures in
    (last_found c.args.words.now c.args.len (c.loop-k.k - 1) c.ilog2.result c.requires (λ j behind. c.loop-k.invariant.clear j (omega arith)) top.power_le top.next_power_gt top.bound).1

pub returns : goal.returns
returns c = none_found c.args.words.now c.args.len c.requires (λ j. c.loop-k.invariant.clear j (omega arith))
