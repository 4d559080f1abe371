-- The member `requery` of a question (EMU-SDMS Manual, "The EMU Query Language (EQL)": requery).
use Rattle.std.specs.Prelude.{ℕ, Bool, true, false, List, Option, Some, None, Result, Ok, Err, nat_le, if◌then◌else◌, codes, option_and_then, ok_or}
use Rattle.serde_json.specs.Find.{as_str}
use Rattle.json_view.specs.declared.wants.Wanted.TheVariants as wanted
use Rattle.json_view.specs.declared.faults.Shape.{Shape}
use Rattle.json_view.specs.Seen.{Seen}
use Rattle.json_view.specs.Parts.{optional_of, shape, text_there, whole_at}
use Rattle.json_view.specs.Steps.{◌>>=◌}
use Rattle.emu_names.specs.Texts.{same_text}
use Rattle.emu_names.specs.declared.limits.TheConstants.{BUNDLE_ITEMS}
use Rattle.session_core.specs.requery.declared.target.Requery.{Requery}
use Rattle.session_core.specs.requery.declared.target.Requery.TheVariants as asks

-- whether a move begins at the last item of a result
abbrev pub end_named : List ℕ → Option Bool
end_named word =
    if same_text word (codes "START") then Some false
    else if same_text word (codes "END") then Some true
    else None

-- a value that has to be the word of an end
unfoldable pub end_in : Seen → Result Bool Shape
end_in s = ok_or (option_and_then end_named (as_str s.value)) (shape s.path wanted.Kind)

-- the end, which is the first item where it is missing
abbrev pub end_there : Option Seen → Result Bool Shape
end_there None = Ok false
end_there (Some m) = end_in m

-- a number of items, up to as many as a bundle can have; 0 where it is missing
abbrev pub far_there : Option Seen → Result ℕ Shape
far_there None = Ok 0
far_there (Some m) = whole_at BUNDLE_ITEMS m

-- a number that has to be 1 or more
abbrev pub if_some : Seen → ℕ → Result ℕ Shape
if_some s n = if nat_le 1 n then Ok n else Err (shape s.path wanted.Whole)

-- a number of items, from 1 to as many as a bundle can have
unfoldable pub count_in : Seen → Result ℕ Shape
count_in s = whole_at BUNDLE_ITEMS s >>= if_some s

-- the same, which is 1 where it is missing
abbrev pub count_there : Option Seen → Result ℕ Shape
count_there None = Ok 1
count_there (Some m) = count_in m

-- the member that says where a move begins
unfoldable pub end_at : Seen → Result Bool Shape
end_at s = optional_of (codes "ref") s >>= end_there

-- a member that says how far it goes
unfoldable pub far_at : List ℕ → Seen → Result ℕ Shape
far_at name s = optional_of name s >>= far_there

-- the member that says how many items are reached
unfoldable pub count_at : Seen → Result ℕ Shape
count_at s = optional_of (codes "length") s >>= count_there

-- a move along the level
unfoldable pub along_at : Seen → Result Requery Shape
along_at s = do
  from_end ← end_at s
  right ← far_at (codes "right") s
  left ← far_at (codes "left") s
  count ← count_at s
  Ok (asks.Along from_end right left count)

-- with the name of a level the other members are passed over
abbrev pub by_level : Seen → Option (List ℕ) → Result Requery Shape
by_level s None = along_at s
by_level s (Some name) = Ok (asks.Level name)

-- an object that says where results are carried
unfoldable pub requery_in : Seen → Result Requery Shape
requery_in s = do
  name ← optional_of (codes "level") s >>= text_there
  by_level s name

-- the same, where it is there
abbrev pub requery_there : Option Seen → Result (Option Requery) Shape
requery_there None = Ok None
requery_there (Some m) = requery_in m >>= λ requery. Ok (Some requery)

-- the member `requery`, which may be missing
unfoldable pub requery_at : Seen → Result (Option Requery) Shape
requery_at s = optional_of (codes "requery") s >>= requery_there
