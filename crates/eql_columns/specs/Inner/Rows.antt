-- What is asked of several rows of bits at each place.
use Rattle.std.specs.Prelude.{◌≡◌, ℕ, Bool, false, List, length, map, replicate}
use Rattle.std.specs.List.{list_all, list_any, range_with_len}
use Rattle.bundle_state.specs.Bundle.{BundleParts}
use Rattle.eql_rows.specs.Inner.Flags.{flag_at}
use Rattle.level_items.specs.Levels.{items_at}

-- for each of so many places whether some row has its bit
abbrev pub any_bits : ℕ → List (List Bool) → List Bool
any_bits count rows = map (λ k. list_any (flag_at k) rows) (range_with_len 0 count)

-- for each of so many places whether all rows have its bit
abbrev pub all_bits : ℕ → List (List Bool) → List Bool
all_bits count rows = map (λ k. list_all (flag_at k) rows) (range_with_len 0 count)

-- a row has a bit for each item of a level, and none is set
abbrev pub IsUnsetFor : BundleParts → ℕ → List Bool → Type 0
IsUnsetFor b level row = row ≡ replicate (length (items_at b.levels level)) false
