use Rattle.std.proofs.Common.{◌+◌, ◌-◌, ◌*◌, ◌^◌, ◌≡◌, ◌<◌, ℕ, map, take, drop, arith, ◌∙◌, ap}
use lib.Lanes.{mask_l}
use Rattle.lane_bits.specs.Inner.Row.{is_between}
use Rattle.lane_bits.proofs.Masks.{taken_few, eight_more}
use Rattle.lane_bits.proofs.lanes.range_word.Goals as goal

pub overflow_mul-word : goal.overflow_mul-word
overflow_mul-word c =
    let word : c.loop-done.word < 2 ^ 56 = taken_few _ _ (8 * c.loop-done.done) 56 _ c.loop-done.invariant (omega arith) in
    omega arith

pub overflow_add-word : goal.overflow_add-word
overflow_add-word c =
    let word : c.loop-done.word < 2 ^ 56 = taken_few _ _ (8 * c.loop-done.done) 56 _ c.loop-done.invariant (omega arith) in
    let eight : c.range_eight-eight.result < 2 ^ 8 = taken_few _ _ 8 8 _ c.range_eight-eight.ensures (omega arith) in
    omega arith

pub loop-done-preserved : goal.loop-done-preserved
loop-done-preserved c =
    let from : ℕ = c.args.at + (56 - 8 * c.loop-done.done) in
    let k : ℕ = 8 * c.loop-done.done in
    let p = is_between c.args.low c.args.high in
    let behind : c.loop-done.word ≡ mask_l (map p (take k (drop (from + 8) c.args.column.now))) =
    c.loop-done.invariant
    ∙ ap (λ n. mask_l (map p (take k (drop n c.args.column.now)))) (omega arith) in
    let more = eight_more p c.args.column.now from k c.loop-done.word c.range_eight-eight.result (omega arith) c.range_eight-eight.ensures behind in
    let count : 8 + k ≡ 8 * (c.loop-done.done + 1) = omega arith in
    let place : from ≡ c.args.at + (64 - 8 * (c.loop-done.done + 1)) = omega arith in
    more ∙ ap (λ n. mask_l (map p (take n (drop from c.args.column.now)))) count
    ∙ ap (λ n. mask_l (map p (take (8 * (c.loop-done.done + 1)) (drop n c.args.column.now)))) place
