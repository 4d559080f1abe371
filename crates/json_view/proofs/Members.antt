-- What a reader makes of a member whose text or whole number was read by the member's name alone.
use Rattle.std.proofs.Common.{◌≡◌, ℕ, List, refl}
use Rattle.std.specs.Prelude.{Option, Some, None, Result, Ok, Err, ok_or, option_map, option_and_then}
use Rattle.serde_json.specs.Data.{Data}
use Rattle.serde_json.specs.Find.{as_str}
use Rattle.json_view.specs.declared.faults.Shape.{Shape}
use Rattle.json_view.specs.declared.wants.Wanted.{Wanted}
use Rattle.json_view.specs.Parts.{at_most, member_of, present, shape, whole_in}
use Rattle.json_view.specs.Inner.Parts.{text_as, text_member_as, whole_as, whole_member_as}
use Rattle.json_view.specs.Paths.{member_path}
use Rattle.json_view.specs.Seen.{Seen, seen}
use Rattle.json_view.specs.Steps.{◌>>=◌}

-- what is there, and what is not
some_of_ok : {A E : Type 0} (o : Option A) (e : E) (x : A) → ok_or o e ≡ Ok x → o ≡ Some x
some_of_ok None e x h = cc
some_of_ok (Some y) e x h = cc

none_of_err : {A E : Type 0} (o : Option A) (e f : E) → ok_or o e ≡ Err f → o ≡ None
none_of_err None e f h = refl
none_of_err (Some y) e f h = cc

-- the place of a member, where it is there
abbrev at_place : Option Data → List ℕ → Wanted → Result Seen Shape
at_place o path wanted = ok_or (option_map (λ d. seen d path) o) (shape path wanted)

-- the part of a value, for a reader that wants this form of it
abbrev part_as : {A : Type 0} → (Data → Option A) → Wanted → Seen → Result A Shape
part_as part wanted s = ok_or (part s.value) (shape s.path wanted)

part_at_place : {A B : Type 0} (part : Data → Option A) (o : Option Data) (path : List ℕ) (wanted : Wanted) (x : A)
    (read : Seen → Result B Shape) (r : Result B Shape) → (at_place o path wanted >>= part_as part wanted) ≡ Ok x
    → ((d : Data) → part d ≡ Some x → read (seen d path) ≡ r) → (at_place o path wanted >>= read) ≡ r
part_at_place part None path wanted x read r h then = cc
part_at_place part (Some d) path wanted x read r h then = then d (some_of_ok (part d) (shape path wanted) x h)

no_part_at_place : {A B : Type 0} (part : Data → Option A) (o : Option Data) (path : List ℕ) (wanted : Wanted) (e : Shape)
    (read : Seen → Result B Shape) → (at_place o path wanted >>= part_as part wanted) ≡ Err e
    → ((d : Data) → part d ≡ None → read (seen d path) ≡ Err (shape path wanted))
    → (at_place o path wanted >>= read) ≡ Err e
no_part_at_place part None path wanted e read h then = cc
no_part_at_place part (Some d) path wanted e read h then =
    let none = none_of_err (part d) (shape path wanted) e h in
    let same : ok_or (part d) (shape path wanted) ≡ Err (shape path wanted) = rw none refl in
    rw (then d none) cc

-- a member that has this text is read as the reader reads each value of this text
pub text_was_read : {B : Type 0} (wanted : Wanted) (name text : List ℕ) (s : Seen)
    (read : Seen → Result B Shape) (r : Result B Shape) → text_member_as wanted name s ≡ Ok text
    → ((d : Data) → as_str d ≡ Some text → read (seen d (member_path s.path name)) ≡ r)
    → (member_of name wanted s >>= read) ≡ r
unfolding member_of text_as
text_was_read wanted name text s read r h then =
    part_at_place as_str (present name s.value) (member_path s.path name) wanted text read r h then

-- a member that has no text is a fault of the reader, where this wants the form of each value without one
pub no_text_was_read : {B : Type 0} (wanted : Wanted) (name : List ℕ) (e : Shape) (s : Seen)
    (read : Seen → Result B Shape) → text_member_as wanted name s ≡ Err e
    → ((d : Data) → as_str d ≡ None → read (seen d (member_path s.path name)) ≡ Err (shape (member_path s.path name) wanted))
    → (member_of name wanted s >>= read) ≡ Err e
unfolding member_of text_as
no_text_was_read wanted name e s read h then =
    no_part_at_place as_str (present name s.value) (member_path s.path name) wanted e read h then

-- a whole number up to the most
abbrev pub whole_up_to : ℕ → Data → Option ℕ
whole_up_to most d = option_and_then (at_most most) (whole_in d)

-- the same of a member that has this whole number
pub whole_was_read : {B : Type 0} (wanted : Wanted) (name : List ℕ) (most n : ℕ) (s : Seen)
    (read : Seen → Result B Shape) (r : Result B Shape) → whole_member_as wanted name most s ≡ Ok n
    → ((d : Data) → whole_up_to most d ≡ Some n → read (seen d (member_path s.path name)) ≡ r)
    → (member_of name wanted s >>= read) ≡ r
unfolding member_of whole_as
whole_was_read wanted name most n s read r h then =
    part_at_place (whole_up_to most) (present name s.value) (member_path s.path name) wanted n read r h then

-- and of one that has none
pub no_whole_was_read : {B : Type 0} (wanted : Wanted) (name : List ℕ) (most : ℕ) (e : Shape) (s : Seen)
    (read : Seen → Result B Shape) → whole_member_as wanted name most s ≡ Err e
    → ((d : Data) → whole_up_to most d ≡ None → read (seen d (member_path s.path name)) ≡ Err (shape (member_path s.path name) wanted))
    → (member_of name wanted s >>= read) ≡ Err e
unfolding member_of whole_as
no_whole_was_read wanted name most e s read h then =
    no_part_at_place (whole_up_to most) (present name s.value) (member_path s.path name) wanted e read h then
