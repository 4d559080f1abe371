-- Words of contracts and loops beside `specs/Changed.antt`; no promise of the program rests on them.
use Rattle.std.specs.Prelude.{ℕ, List, Option}
use Rattle.std.specs.List.{slice_get}
use Rattle.std.specs.Option.{option_and_then, option_map}
use Rattle.level_items.specs.Levels.{Level}
use Rattle.bundle_state.specs.Bundle.{place_of}

-- the level of the item with this id
abbrev pub level_with : ℕ → List Level → Option Level
level_with id levels = option_and_then (λ place. slice_get levels place.0) (place_of levels id)

-- how many labels the item with this id has
abbrev pub attributes_with : ℕ → List Level → Option ℕ
attributes_with id levels = option_map (λ level. level.attributes) (level_with id levels)
