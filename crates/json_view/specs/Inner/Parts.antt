-- Words of contracts and loops beside `specs/Parts.antt`; no promise of the program rests on them.
use Rattle.std.specs.Prelude.{ℕ, List, Option, Result, ok_or, option_and_then}
use Rattle.serde_json.specs.Find.{as_str}
use Rattle.json_view.specs.declared.wants.Wanted.{Wanted}
use Rattle.json_view.specs.declared.wants.Wanted.TheVariants as wanted
use Rattle.json_view.specs.declared.faults.Shape.{Shape}
use Rattle.json_view.specs.Seen.{Seen}
use Rattle.json_view.specs.Steps.{◌>>=◌}
use Rattle.json_view.specs.Parts.{shape, member_of, optional_of, text_at, whole_in, at_most, whole_at, text_there}

-- a text, or a whole number up to the most, for a reader that wants this form of it
unfoldable pub text_as : Wanted → Seen → Result (List ℕ) Shape
text_as wanted s = ok_or (as_str s.value) (shape s.path wanted)

unfoldable pub whole_as : Wanted → ℕ → Seen → Result ℕ Shape
whole_as wanted most s =
    ok_or (option_and_then (at_most most) (whole_in s.value)) (shape s.path wanted)

-- ---- texts and numbers of members

-- a member that has to be a text
abbrev pub text_member : List ℕ → Seen → Result (List ℕ) Shape
text_member name s = member_of name wanted.Text s >>= text_at

-- the same, for a reader that wants this form of it
abbrev pub text_member_as : Wanted → List ℕ → Seen → Result (List ℕ) Shape
text_member_as wanted name s = member_of name wanted s >>= text_as wanted

-- a member that is a text, or missing
abbrev pub optional_text : List ℕ → Seen → Result (Option (List ℕ)) Shape
optional_text name s = optional_of name s >>= text_there

-- a member that has to be a whole number up to the most
abbrev pub whole_member : List ℕ → ℕ → Seen → Result ℕ Shape
whole_member name most s = member_of name wanted.Whole s >>= whole_at most

-- the same, for a reader that wants this form of it
abbrev pub whole_member_as : Wanted → List ℕ → ℕ → Seen → Result ℕ Shape
whole_member_as wanted name most s = member_of name wanted s >>= whole_as wanted most
