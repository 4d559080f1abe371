-- What a tuple shows of itself (EMU-SDMS Manual, "The EMU Query Language (EQL)": results are stretches of
-- items, or the items that a `#` marks).
use Rattle.std.specs.Prelude.{ℕ, Bool, true, false, List, [], ◌∷◌, Option, Some, None}
use Rattle.eql_tuples.specs.declared.tuple.Tuple.{Tuple}

-- a stretch without a mark
abbrev pub bare : ℕ → ℕ → Tuple
bare first last = record { first = first; last = last; mark = None }

-- the marked item as a stretch, where there is one
abbrev pub marked_item : Option ℕ → List Tuple
marked_item None = []
marked_item (Some at) = bare at at ∷ []

-- what a tuple shows: its marked item, where the query has a mark, else its stretch
abbrev pub shown : Bool → Tuple → List Tuple
shown true t = marked_item t.mark
shown false t = bare t.first t.last ∷ []
