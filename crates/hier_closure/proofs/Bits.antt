-- The bits of a closure say what dominates what.
use Rattle.std.proofs.Common.{◌≡◌, ℕ, Bool, true, List, sym, ap, ◌∙◌, Option, Some, option_map}
use Rattle.std.specs.List.{slice_get}
use Rattle.std.specs.Option.{option_and_then}
use Rattle.std.proofs.lemmas.Option.{slice_get-map}
use Rattle.bundle_state.specs.Bundle.{BundleParts}
use Rattle.hier_closure.specs.Dominance.{dominates, ids_at, closure_row, closure_of}
use Rattle.hier_closure.specs.Laws.{BitsAreDominance}
use Rattle.hier_closure.proofs.Ways.{by_chains}

-- the bit at a place of some rows
abbrev bit_of : List (List Bool) → ℕ → ℕ → Option Bool
bit_of rows i j = option_and_then (λ row. slice_get row j) (slice_get rows i)

bit_is : (bundle : BundleParts) (upper lower i j a b : ℕ) → slice_get (ids_at bundle.levels upper) i ≡ Some a →
    slice_get (ids_at bundle.levels lower) j ≡ Some b →
    bit_of (closure_of bundle lower upper) i j ≡ Some (dominates bundle.links a b)
bit_is bundle upper lower i j a b above below =
    ap (λ o. option_and_then (λ (row : List Bool). slice_get row j) o)
    (slice_get-map (closure_row bundle.links (ids_at bundle.levels lower)) (ids_at bundle.levels upper) i
    ∙ ap (option_map (closure_row bundle.links (ids_at bundle.levels lower))) above)
    ∙ slice_get-map (dominates bundle.links a) (ids_at bundle.levels lower) j
    ∙ ap (option_map (dominates bundle.links a)) below

same_bit : (x y : Bool) → Some x ≡ Some y → x ≡ y
same_bit x y e = cc

pub bits_dominance : BitsAreDominance
bits_dominance bundle upper lower i j a b above below =
    let bit : bit_of (closure_of bundle lower upper) i j ≡ Some (dominates bundle.links a b) = bit_is bundle upper lower i j a b above below in
    let law = by_chains bundle.links a b in
    (λ set. law.0 (same_bit (dominates bundle.links a b) true (sym bit ∙ set)), λ chain. bit ∙ ap (λ x. Some x) (law.1 chain))
