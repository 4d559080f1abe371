-- Levels of a bundle that have other attributes than before.
use Rattle.std.specs.Prelude.{◌≡◌, ◌<◌, ℕ, suc, false, Bool, List, get_or}
use Rattle.std.specs.List.{slice_get}
use Rattle.std.specs.Option.{option_map_or}
use Rattle.level_items.specs.Levels.{Level}

-- one more than a level has attributes, and 0 where there is no such level
abbrev pub attributes_at : List Level → ℕ → ℕ
attributes_at levels k = option_map_or (λ (l : Level). suc l.attributes) (slice_get levels k) 0

-- each of the first n levels that is not marked has as many attributes as before
abbrev pub AreWide : List Level → List Level → List Bool → ℕ → Type 0
AreWide old new row n =
    (k : ℕ) → k < n → get_or row k false ≡ false → attributes_at new k ≡ attributes_at old k
