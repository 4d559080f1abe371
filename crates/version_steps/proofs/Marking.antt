-- A mark that is set in a row.
use Rattle.std.proofs.Common.{◌≡◌, ◌⊎◌, inl, inr, ℕ, ◌<◌, ◌≤◌, Bool, true, false, List, length, get_or, slice_set, ◌∙◌, ap, arith}
use Rattle.std.proofs.lemmas.Bool.{cases_eq}
use Rattle.std.proofs.lemmas.List.{get_or-set_same, get_or-set_other, length-set}

module _ (row next : List Bool) (level : ℕ) (is : next ≡ slice_set row level true) where
  pub mark_here : level < length row → get_or next level false ≡ true
  mark_here within = ap (λ (r : List Bool). get_or r level false) is ∙ get_or-set_same row level true false within

  pub mark_others : level < length row → (k : ℕ) → get_or row k false ≡ true → get_or next k false ≡ true
  mark_others within k was = by (cases_eq k level)
    where
      by : (k ≡ level) ⊎ (k ≡ level → ⊥) → get_or next k false ≡ true
      by (inl same) = ap (λ (j : ℕ). get_or next j false) same ∙ mark_here within
      by (inr other) = ap (λ (r : List Bool). get_or r k false) is ∙ get_or-set_other row level k true false other ∙ was

  pub mark_count : length next ≡ length row
  mark_count = ap length is ∙ length-set row level true

-- a level that has no bit
pub mark_beyond : (row : List Bool) (level : ℕ) → length row ≤ level → level < length row → get_or row level false ≡ true
mark_beyond row level past within = absurd (omega (arith, past, within))
