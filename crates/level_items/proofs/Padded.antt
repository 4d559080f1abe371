-- Labels with empty ones behind.
use Rattle.std.proofs.Common.{◌≡◌, ℕ, ◌+◌, ◌-◌, ◌≤◌, List, [], ◌∷◌, ◌++◌, length, replicate, Result, Ok, Err, IfOk, sym, ap, ◌∙◌, arith}
use Rattle.std.proofs.lemmas.List.{append-nil, append_assoc, replicate-append-replicate}
use Rattle.level_items.specs.Levels.{padded}

none_wanted : (count : ℕ) (labels : List (List ℕ)) → count ≤ length labels → padded count labels ≡ labels
none_wanted count labels within =
    let none : count - length labels ≡ 0 = omega arith in
    ap (λ n. labels ++ replicate n []) none ∙ append-nil labels

-- a copy, where there are enough labels
pub copied_padded : {E : Type 0} (r : Result (List (List ℕ)) E) (labels : List (List ℕ)) (count : ℕ) → count ≤ length labels → IfOk r (λ made. made ≡ labels) → IfOk r (λ made. made ≡ padded count labels)
copied_padded (Ok made) labels count within is = is ∙ sym (none_wanted count labels within)
copied_padded (Err fault) labels count within is = tt

-- the labels, and then empty ones
pub pushed_padded : (labels slice made next : List (List ℕ)) (count len more : ℕ) → slice ≡ labels → made ≡ slice → len ≡ length labels → more ≡ count - len →
    next ≡ made ++ replicate more [] → next ≡ padded count labels
pushed_padded labels slice made next count len more same is size left put =
    put ∙ ap (λ ls. ls ++ replicate more []) (is ∙ same) ∙ ap (λ n. labels ++ replicate n []) (left ∙ ap (λ n. count - n) size)

-- no empty label yet
pub empty_none : (labels : List (List ℕ)) → labels ≡ labels ++ replicate 0 []
empty_none labels = sym (append-nil labels)

-- one empty label more
pub empty_more : (labels made next : List (List ℕ)) (n : ℕ) → made ≡ labels ++ replicate n [] → next ≡ made ++ [] ∷ [] → next ≡ labels ++ replicate (n + 1) []
empty_more labels made next n is put =
    put ∙ ap (λ ls. ls ++ [] ∷ []) is ∙ append_assoc labels (replicate n []) ([] ∷ []) ∙ ap (λ ls. labels ++ ls) (replicate-append-replicate n 1 [])
