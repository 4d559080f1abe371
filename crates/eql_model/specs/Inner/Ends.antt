-- From which place to which one a row of flags, or some rows of them, have flags.
use Rattle.std.specs.Prelude.{◌≡◌, ◌≤◌, ℕ, ◌-◌, Bool, true, false, min, max, List, Option, Some, None}
use Rattle.std.specs.List.{list_any, range_with_len}
use Rattle.eql_model.specs.Inner.Joins.{bit_at}

-- the first and the last place at which a test holds, or none, where it holds nowhere
abbrev pub AreEnds : (ℕ → Bool) → Option (ℕ × ℕ) → Type 0
AreEnds test None = (k : ℕ) → test k ≡ false
AreEnds test (Some ends) =
    (test ends.0 ≡ true) × (test ends.1 ≡ true) × ((k : ℕ) → test k ≡ true → (ends.0 ≤ k) × (k ≤ ends.1))

-- the lesser of the first ones and the greater of the last ones, of which either may be missing
abbrev pub round_both : Option (ℕ × ℕ) → Option (ℕ × ℕ) → Option (ℕ × ℕ)
round_both None other = other
round_both (Some one) None = Some one
round_both (Some one) (Some other) = Some (min one.0 other.0, max one.1 other.1)

-- some row from one to before another has the bit of this place
abbrev pub is_under_some : List (List Bool) → ℕ → ℕ → ℕ → Bool
is_under_some rows first row place = list_any (λ i. bit_at rows i place) (range_with_len first (row - first))
