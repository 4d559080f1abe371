use Rattle.std.proofs.Common.{◌+◌, ◌-◌, ◌*◌, ◌/◌, ◌^◌, ◌≡◌, ◌<◌, ◌==◌, ℕ, Bool, length, map, drop, arith, ◌∙◌, ap}
use lib.Lanes.{mask_l}
use Rattle.lane_bits.proofs.Masks.{behind_few, taken_few, eight_before}
use Rattle.lane_bits.proofs.columns.eq_rest.Goals as goal

pub overflow_mul-word : goal.overflow_mul-word
overflow_mul-word c =
    let word = behind_few (λ x. x == c.args.label) c.args.column.now (c.args.from + 8 * ((length c.args.column.now - c.args.from) / 8 - c.loop-done.done)) c.loop-done.word c.loop-done.invariant (omega arith) in
    omega arith

pub overflow_add-word : goal.overflow_add-word
overflow_add-word c =
    let word = behind_few (λ x. x == c.args.label) c.args.column.now (c.args.from + 8 * ((length c.args.column.now - c.args.from) / 8 - c.loop-done.done)) c.loop-done.word c.loop-done.invariant (omega arith) in
    let eight : c.eq_eight-eight.result < 2 ^ 8 = taken_few _ _ 8 8 _ c.eq_eight-eight.ensures (omega arith) in
    omega arith

pub loop-done-preserved : goal.loop-done-preserved
loop-done-preserved c =
    let from : ℕ = c.args.from + 8 * ((length c.args.column.now - c.args.from) / 8 - c.loop-done.done - 1) in
    let p : ℕ → Bool = λ x. x == c.args.label in
    let behind : c.loop-done.word ≡ mask_l (map p (drop (from + 8) c.args.column.now)) =
    c.loop-done.invariant ∙ ap (λ n. mask_l (map p (drop n c.args.column.now))) (omega arith) in
    let place : from ≡ c.args.from + 8 * ((length c.args.column.now - c.args.from) / 8 - (c.loop-done.done + 1)) = omega arith in
    eight_before p c.args.column.now from c.loop-done.word c.eq_eight-eight.result (omega arith) c.eq_eight-eight.ensures behind
    ∙ ap (λ n. mask_l (map p (drop n c.args.column.now))) place

pub returns : goal.returns
returns c =
    c.loop-done.invariant
    ∙ ap (λ n. mask_l (map (λ x. x == c.args.label) (drop n c.args.column.now))) (omega arith)
