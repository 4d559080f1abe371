-- Words of contracts and loops beside `specs/Lists.antt`; no promise of the program rests on them.
use Rattle.std.specs.Prelude.{ℕ, Option, option_map}
use Rattle.std.specs.List.{slice_get}
use Rattle.json_view.specs.Paths.{element_path}
use Rattle.json_view.specs.Seen.{Seen, seen}
use Rattle.json_view.specs.Parts.{list_in}

-- the element at this place, counted from 0
unfoldable pub element_of : ℕ → Seen → Option Seen
element_of place s =
    option_map (λ d. seen d (element_path s.path place)) (slice_get (list_in s.value) place)
