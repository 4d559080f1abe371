use Rattle.std.proofs.Common.{◌≡◌, List, length, map, replicate, sym, ap, subst, ◌∙◌, ℕ, arith}
use Rattle.std.proofs.lemmas.List.{length-map}
use Rattle.std.proofs.lemmas.Simd.{length-replicate}
use Rattle.lane_bits.specs.Inner.Row.{is_between}
use Rattle.lane_bits.specs.Inner.Words.{Hold, bits_of}
use Rattle.lane_bits.proofs.Rows.{length-shown, seen_held, none_held, not_between, written_held, written_is}
use Rattle.lane_bits.proofs.row.range_lanes.Goals as goal

long : (c : goal.After-out-1) → length (map (is_between c.args.low c.args.high) c.args.column.now) ≡ c.out.inside.len
long c =
    length-map c.args.column.now (is_between c.args.low c.args.high) ∙ c.requires
    ∙ (seen_held c.out.inside.words.items c.out.inside.len c.args.out.now c.out.invariant c.out.view_is).1

none_long : (c : goal.After-out-else-low-high-1) → length (map (is_between c.args.low c.args.high) c.args.column.now) ≡ c.out.inside.len
none_long c =
    length-map c.args.column.now (is_between c.args.low c.args.high) ∙ c.requires
    ∙ (seen_held c.out.inside.words.items c.out.inside.len c.args.out.now c.out.invariant c.out.view_is).1

none : (c : goal.After-out-else-low-high-1) → Hold c.clear_words.new.words (map (is_between c.args.low c.args.high) c.args.column.now)
none c =
    let p = is_between c.args.low c.args.high in
    let m : ℕ = length c.as_mut_slice-else-low-high.result.now in
    let zeros : List ℕ = replicate m 0 in
    let many : length zeros ≡ m = length-replicate m 0 in
    let same : m ≡ length c.out.inside.words.items = ap length c.as_mut_slice-else-low-high.ensures.value in
    let shown : length (bits_of c.out.inside.len c.out.inside.words.items) ≡ c.out.inside.len = length-shown c.out.inside.len c.out.inside.words.items in
    let column : length (map p c.args.column.now) ≡ c.out.inside.len = none_long c in
    let numbers : length (map p c.args.column.now) ≡ length c.args.column.now = length-map c.args.column.now p in
    let full = c.out.invariant.enough.full in
    let tight = c.out.invariant.enough.tight in
    subst (λ (ws : List ℕ). Hold ws (map p c.args.column.now)) (sym c.clear_words.ensures)
    (none_held p c.args.column.now m (record { full = omega arith; tight = omega arith }) (not_between c.args.low c.args.high c.if-low-high.false))

pub invariant_of-out : goal.invariant_of-out
invariant_of-out c =
    written_held c.out.inside.len (length c.out.inside.words.items) c.range_words.new.words c.out.inside.words.items _
    (c.range_words.auto.words ∙ ap length c.as_mut_slice.ensures.value) c.range_words.ensures (long c)

pub invariant_of-out-else-low-high : goal.invariant_of-out-else-low-high
invariant_of-out-else-low-high c =
    written_held c.out.inside.len (length c.out.inside.words.items) c.clear_words.new.words c.out.inside.words.items _
    (c.clear_words.auto.words ∙ ap length c.as_mut_slice-else-low-high.ensures.value) (none c) (none_long c)

pub returns-then-low-high : goal.returns-then-low-high
returns-then-low-high c =
    written_is c.out.inside.len (length c.out.inside.words.items) c.range_words.new.words c.out.inside.words.items _
    (c.range_words.auto.words ∙ ap length c.as_mut_slice.ensures.value) c.range_words.ensures (long c)

pub returns-else-low-high : goal.returns-else-low-high
returns-else-low-high c =
    written_is c.out.inside.len (length c.out.inside.words.items) c.clear_words.new.words c.out.inside.words.items _
    (c.clear_words.auto.words ∙ ap length c.as_mut_slice-else-low-high.ensures.value) (none c) (none_long c)
