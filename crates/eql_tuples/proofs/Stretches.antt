-- A stretch of a list by its positions.
use Rattle.std.proofs.Common.{◌≡◌, ℕ, zero, suc, ◌+◌, ◌-◌, ◌<◌, ◌≤◌, true, List, ◌∷◌, length, take, drop, map, get_or, refl, ap, ◌∙◌, arith, nat_lt, nat_le}
use Rattle.std.specs.List.{range_with_len}
use Rattle.std.proofs.lemmas.Bool.{and_parts, leb-true, ltb-true}
use Rattle.std.proofs.lemmas.List.{drop_more}
use Rattle.eql_tuples.specs.declared.tuple.Tuple.{Tuple}
use Rattle.eql_tuples.specs.Tuples.{stretch, fits_in}
use Rattle.eql_tuples.specs.Inner.Stretches.{positions}

pub taken_by : {X : Type 0} (xs : List X) (d : X) (k n : ℕ) → k + n ≤ length xs →
    take n (drop k xs) ≡ map (λ i. get_or xs i d) (range_with_len k n)
taken_by xs d k zero h = refl
taken_by xs d k (suc n) h =
    ap (take (suc n)) (drop_more xs k d (omega arith)) ∙ ap (λ ys. get_or xs k d ∷ ys) (taken_by xs d (k + 1) n (omega arith))

pub stretch_is : {X : Type 0} (xs : List X) (d : X) (t : Tuple) → fits_in (length xs) t ≡ true →
    stretch xs t ≡ map (λ i. get_or xs i d) (positions t)
stretch_is xs d t fits =
    let parts = and_parts (nat_le t.first t.last) (nat_lt t.last (length xs)) fits in
    let rises : t.first ≤ t.last = leb-true t.first t.last parts.0 in
    let within : t.last < length xs = ltb-true t.last (length xs) parts.1 in
    taken_by xs d t.first (t.last + 1 - t.first) (omega arith)
