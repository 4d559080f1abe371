use Rattle.std.proofs.Common.{◌≡◌, ◌∙◌, List, ℕ, replicate, false, ap, sym, subst}
use Rattle.std.proofs.lemmas.Simd.{length-replicate}
use Rattle.std.specs.Int.{div_ceil}
use Rattle.lane_bits.specs.Inner.Words.{Hold}
use Rattle.lane_bits.proofs.Rows.{new_held, held_is, row_held}
use Rattle.lane_bits.proofs.row.BitRow.new.Goals as goal

held : (c : goal.In_ok-words) → Hold c.in_ok-words.words.items (replicate c.args.len false)
held c =
    let all : c.in_ok-words.words.items ≡ replicate (div_ceil c.args.len 64) 0 =
    c.in_ok-words.ensures.zeros ∙ ap (λ n. let none : ℕ = 0 in replicate n none) c.div_ceil.ensures in
    subst (λ (ws : List ℕ). Hold ws (replicate c.args.len false)) (sym all) (new_held c.args.len)

pub invariant_of-result : goal.invariant_of-result
invariant_of-result c = row_held c.in_ok-words.words.items _ c.args.len (held c) (length-replicate c.args.len false)

pub returns : goal.returns
returns c = held_is c.in_ok-words.words.items _ c.args.len (held c) (length-replicate c.args.len false)
