-- The levels that are kept for ids.
use Rattle.std.specs.Prelude.{◌≡◌, ℕ, Option, IfSome, nat_eq}
use Rattle.std.specs.Arc.{arc_value}
use Rattle.std.specs.HashMap.{HashMap, get}
use Rattle.bundle_state.specs.declared.places.Places.{Places}

-- the number of the level that a map has for an id
abbrev pub level_in : {S : Type 0} → HashMap ℕ ℕ S → ℕ → Option ℕ
level_in map q = get nat_eq map q

-- where there is a map, it has these levels
abbrev pub ArePlaced : (ℕ → Option ℕ) → Places → Type 0
ArePlaced level places = IfSome places.map (λ map. (q : ℕ) → level_in (arc_value map) q ≡ level q)
