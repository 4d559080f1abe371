-- Lists of a JSON value (RFC 8259), each of whose elements is read by one reader.
use Rattle.std.specs.Prelude.{ℕ, ◌+◌, List, [], ◌∷◌, Result, Ok, drop}
use Rattle.std.specs.Option.{option_map_or}
use Rattle.serde_json.specs.Data.{Data}
use Rattle.serde_json.specs.Find.{as_str}
use Rattle.json_view.specs.declared.faults.Shape.{Shape}
use Rattle.json_view.specs.Paths.{element_path}
use Rattle.json_view.specs.Seen.{Seen, seen}
use Rattle.json_view.specs.Parts.{list_in, elements_at, text_at}
use Rattle.json_view.specs.Steps.{◌>>=◌, with_front}

-- what the reader gives of each value in turn, the first of which stands at this place of the list
-- at the path, or the first fault
abbrev pub readings : {A E : Type 0} → (Seen → Result A E) → List ℕ → ℕ → List Data
    → Result (List A) E
readings read path place [] = Ok []
readings read path place (d ∷ ds) =
    read (seen d (element_path path place)) >>= λ x.
    with_front (x ∷ []) (readings read path (place + 1) ds)

-- the readings of a list's elements from a place on
unfoldable pub each_from : {A E : Type 0} → (Seen → Result A E) → ℕ → Seen → Result (List A) E
each_from read place s = readings read s.path place (drop place (list_in s.value))

-- the readings of the elements of a value that has to be a list
unfoldable pub each_of : {A : Type 0} → (Seen → Result A Shape) → Seen → Result (List A) Shape
each_of read s = elements_at s >>= λ _. each_from read 0 s

-- a list of texts; a text alone counts as a list of one
unfoldable pub texts_at : Seen → Result (List (List ℕ)) Shape
texts_at s = option_map_or (λ t. Ok (t ∷ [])) (as_str s.value) (each_of text_at s)
