-- What single words and signs stand for in EQL. (EMU-SDMS Manual, "The EMU Query Language version
-- 2".)
use Rattle.std.specs.Prelude.{ℕ, ◌||◌, ◌&&◌, Bool, true, false, List, length, if◌then◌else◌, nat_le, codes, Option, Some, None}
use Rattle.std.specs.Str.{all_ascii_digits}
use Rattle.std.specs.Str.Parse.{digits_value}
use Rattle.emu_names.specs.Texts.{same_text}
use Rattle.eql_syntax.specs.declared.query.Op.{Op}
use Rattle.eql_syntax.specs.declared.query.Op.TheVariants as ops
use Rattle.eql_syntax.specs.declared.query.Compare.{Compare}
use Rattle.eql_syntax.specs.declared.query.Compare.TheVariants as compares
use Rattle.eql_syntax.specs.declared.query.Place.{Place}
use Rattle.eql_syntax.specs.declared.query.Place.TheVariants as places
use Rattle.eql_tokens.specs.declared.token.Sign.{Sign}
use Rattle.eql_tokens.specs.declared.token.Sign.TheVariants as signs

-- the operator of a label test
abbrev pub op_of : Sign → Option Op
op_of signs.Is = Some ops.Is
op_of signs.IsNot = Some ops.IsNot
op_of signs.Like = Some ops.Like
op_of signs.NotLike = Some ops.NotLike
op_of _ = None

-- the comparison of a number
abbrev pub compare_of : Sign → Option Compare
compare_of signs.Is = Some compares.Eq
compare_of signs.IsNot = Some compares.Ne
compare_of signs.Lt = Some compares.Lt
compare_of signs.Le = Some compares.Le
compare_of signs.Gt = Some compares.Gt
compare_of signs.Ge = Some compares.Ge
compare_of _ = None

-- the function that tests a place
abbrev pub place_of : List ℕ → Option Place
place_of word =
    if same_text word (codes "Start") then Some places.Start
    else (if same_text word (codes "Medial") then Some places.Medial
    else (if same_text word (codes "End") then Some places.End else None))

-- the function that counts
abbrev pub is_count : List ℕ → Bool
is_count word = same_text word (codes "Num")

-- what is wanted of a place; this list of words is this project's own
abbrev pub bit_of : List ℕ → Option Bool
bit_of word =
    if same_text word (codes "1") || same_text word (codes "TRUE") || same_text word (codes "T")
    then Some true
    else (if same_text word (codes "0") || same_text word (codes "FALSE") || same_text word (codes "F")
    then Some false else None)

-- a number of 1 to 9 digits
abbrev pub number_of : List ℕ → Option ℕ
number_of word =
    if nat_le 1 (length word) && nat_le (length word) 9 && all_ascii_digits word
    then Some (digits_value 10 word) else None
