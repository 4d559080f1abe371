-- What the reading of texts comes to, in words of its own: these four cases are all that there are.
use Rattle.std.specs.Prelude.{◌≡◌, ℕ, List, [], ◌∷◌, ◌++◌, length, map, None, Ok, Err}
use Rattle.serde_json.specs.Data.{Data, string, array, Items}
use Rattle.serde_json.specs.Find.{as_array, as_str}
use Rattle.json_view.specs.declared.wants.Wanted.TheVariants as wanted
use Rattle.json_view.specs.Lists.{texts_at}
use Rattle.json_view.specs.Parts.{elements, shape}
use Rattle.json_view.specs.Paths.{element_path}
use Rattle.json_view.specs.Seen.{Seen, seen}

-- a text alone is a list of one
abbrev pub LoneTextIsOne : Type 0
LoneTextIsOne = (t path : List ℕ) → texts_at (seen (string t) path) ≡ Ok (t ∷ [])

-- a list of texts gives them all, in order
abbrev pub TextsAreAll : Type 0
TextsAreAll =
    (items : Items) (path : List ℕ) (ts : List (List ℕ)) → elements items ≡ map string ts
    → texts_at (seen (array items) path) ≡ Ok ts

-- behind some texts the first element that is none is the fault, at its own place
abbrev pub FirstOtherIsFault : Type 0
FirstOtherIsFault =
    (items : Items) (path : List ℕ) (ts : List (List ℕ)) (d : Data) (rest : List Data)
    → elements items ≡ map string ts ++ d ∷ rest → as_str d ≡ None
    → texts_at (seen (array items) path) ≡ Err (shape (element_path path (length ts)) wanted.Text)

-- any other value is no list
abbrev pub OtherIsNoList : Type 0
OtherIsNoList =
    (s : Seen) → as_str s.value ≡ None → as_array s.value ≡ None
    → texts_at s ≡ Err (shape s.path wanted.List)
