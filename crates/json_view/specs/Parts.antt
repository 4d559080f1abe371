-- The typed parts of a JSON value (RFC 8259): each is the part, or the fault that says at which
-- path which form was wanted. A member that is `null` counts as missing.
use Rattle.std.specs.Prelude.{ℕ, List, [], ◌∷◌, nat_le, if◌then◌else◌, Option, Some, None, Result, Ok, Err, is_some, ok_or, option_map, option_and_then}
use Rattle.serde_json.specs.Data.{Data, null, boolean, number, string, array, object, Items, no_items, item}
use Rattle.serde_json.specs.Find.{get, as_object, as_array, as_str, as_number, as_u64}
use Rattle.json_view.specs.declared.wants.Wanted.{Wanted}
use Rattle.json_view.specs.declared.wants.Wanted.TheVariants as wanted
use Rattle.json_view.specs.declared.faults.Shape.{Shape}
use Rattle.json_view.specs.Paths.{member_path}
use Rattle.json_view.specs.Seen.{Seen, seen}
use Rattle.json_view.specs.Steps.{◌>>=◌}

-- "at this path, this form was wanted"
abbrev pub shape : List ℕ → Wanted → Shape
shape path wanted = record { path = path; wanted = wanted }

-- ---- members of an object

-- `null` counts as nothing
abbrev pub unless_null : Data → Option Data
unless_null null = None
unless_null (boolean b) = Some (boolean b)
unless_null (number n) = Some (number n)
unless_null (string s) = Some (string s)
unless_null (array ds) = Some (array ds)
unless_null (object ms) = Some (object ms)

-- the member of this name, where the value is an object that has it
abbrev pub present : List ℕ → Data → Option Data
present name d = option_and_then unless_null (get name d)

-- the member of this name at its path, where it is there
abbrev pub member_seen : List ℕ → Seen → Option Seen
member_seen name s = option_map (λ d. seen d (member_path s.path name)) (present name s.value)

-- a member that has to be there; where it is not, the fault has the member's own path
unfoldable pub member_of : List ℕ → Wanted → Seen → Result Seen Shape
member_of name wanted s = ok_or (member_seen name s) (shape (member_path s.path name) wanted)

-- a value that has to be an object, with which each reader of an object begins
unfoldable pub object_of : Seen → Result Seen Shape
object_of s = if is_some (as_object s.value) then Ok s else Err (shape s.path wanted.Object)

-- a member that may be missing, of a value that has to be an object
unfoldable pub optional_of : List ℕ → Seen → Result (Option Seen) Shape
optional_of name s =
    if is_some (as_object s.value) then Ok (member_seen name s)
    else Err (shape s.path wanted.Object)

-- ---- elements of a list

-- the elements in order
abbrev pub elements : Items → List Data
elements no_items = []
elements (item d ds) = d ∷ elements ds

-- the elements of a list; no other value has any
abbrev pub list_in : Data → List Data
list_in null = []
list_in (boolean b) = []
list_in (number n) = []
list_in (string s) = []
list_in (array ds) = elements ds
list_in (object ms) = []

-- the elements of a value that has to be a list
unfoldable pub elements_at : Seen → Result (List Data) Shape
elements_at s =
    if is_some (as_array s.value) then Ok (list_in s.value) else Err (shape s.path wanted.List)

-- ---- texts and numbers

-- a text
unfoldable pub text_at : Seen → Result (List ℕ) Shape
text_at s = ok_or (as_str s.value) (shape s.path wanted.Text)

-- a whole number; one with a fraction or an exponent is none, nor is -0, a negative number, or one
-- from 2^64 on
abbrev pub whole_in : Data → Option ℕ
whole_in d = option_and_then as_u64 (as_number d)

-- a number up to the most
abbrev pub at_most : ℕ → ℕ → Option ℕ
at_most most n = if nat_le n most then Some n else None

-- a whole number up to the most
unfoldable pub whole_at : ℕ → Seen → Result ℕ Shape
whole_at most s =
    ok_or (option_and_then (at_most most) (whole_in s.value)) (shape s.path wanted.Whole)

-- a text, or none
abbrev pub text_there : Option Seen → Result (Option (List ℕ)) Shape
text_there None = Ok None
text_there (Some m) = text_at m >>= λ text. Ok (Some text)
