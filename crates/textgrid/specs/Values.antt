-- The values of a text with their places, or its first fault. (Praat manual, "TextGrid file formats":
-- what is no number, text or flag is not read; `!` begins a comment.)
use Rattle.std.specs.Prelude.{ℕ, zero, suc, ◌+◌, ◌-◌, ◌==◌, ◌||◌, ◌&&◌, not, nat_eq, Bool, false, List, [], ◌∷◌, take, drop, if◌then◌else◌, Option, Some, None, Result, Ok, Err, codes}
use Rattle.std.specs.List.{prefix_len}
use Rattle.std.specs.Cmp.Lexicographic.{pointwise}
use Rattle.sample_time.specs.declared.decimal.Decimal.{Decimal}
use Rattle.sample_time.specs.declared.decimal.NumberFault.{NumberFault}
use Rattle.sample_time.specs.declared.decimal.NumberFault.TheVariants.{NotANumber, TooManyDigits as TooLong}
use Rattle.sample_time.specs.Reading.{decimal_of}
use Rattle.textgrid.specs.declared.fault.GridFault.{GridFault}
use Rattle.textgrid.specs.declared.fault.GridFault.TheVariants.{BadText, TooManyDigits}
use Rattle.textgrid.specs.declared.values.Value.TheVariants.{Number, Quoted, Flag}
use Rattle.textgrid.specs.declared.values.Placed.{Placed}
use Rattle.textgrid.specs.declared.scan.Piece.{Piece}
use Rattle.textgrid.specs.declared.scan.Piece.TheVariants.{Passed, Found, OpenText, LongNumber}
use Rattle.textgrid.specs.Quoted.{quoted}

-- the first byte of a text, 0 of an empty one
abbrev pub front : List ℕ → ℕ
front [] = 0
front (b ∷ bs) = b

-- space, tab, line feed and carriage return
abbrev pub is_space : ℕ → Bool
is_space b = b == 32 || b == 9 || b == 10 || b == 13

-- a comment goes on up to the end of its line
abbrev pub in_comment : ℕ → Bool
in_comment b = not (b == 10)

-- a flag goes on up to white space or `>`
abbrev pub in_flag : ℕ → Bool
in_flag b = not (is_space b) && not (b == 62)

-- a word goes on up to white space or a quote
abbrev pub is_inside : ℕ → Bool
is_inside b = not (is_space b) && not (b == 34)

-- how many bytes of a comment stand at the front
abbrev pub comment_len : List ℕ → ℕ
comment_len bs = prefix_len in_comment bs

-- how many bytes of a flag stand at the front
abbrev pub flag_len : List ℕ → ℕ
flag_len bs = prefix_len in_flag bs

-- how many bytes of a word stand at the front
abbrev pub word_len : List ℕ → ℕ
word_len bs = prefix_len is_inside bs

-- what a word is: a number, one with too many digits, or nothing
abbrev pub number_piece : Result Decimal NumberFault → Piece
number_piece (Ok number) = Found (Number number)
number_piece (Err NotANumber) = Passed
number_piece (Err TooLong) = LongNumber

-- the word at the front, which has the first byte in any case, and its length
unfoldable pub word_at : List ℕ → Piece × ℕ
word_at bs =
    (number_piece (decimal_of (take (word_len (drop 1 bs) + 1) bs)), word_len (drop 1 bs) + 1)

-- the flag behind `<` at the front where `>` ends it, and its length; else the word
unfoldable pub flag_at : List ℕ → Piece × ℕ
flag_at bs =
    if front (drop (flag_len (drop 1 bs)) (drop 1 bs)) == 62
    then (
      Found (Flag (pointwise nat_eq (take (flag_len (drop 1 bs)) (drop 1 bs)) (codes "exists"))),
      flag_len (drop 1 bs) + 2,
    )
    else word_at bs

-- the text that was found, and its length with both quotes
abbrev pub text_piece : Option (List ℕ × ℕ) → Piece × ℕ
text_piece None = (OpenText, 1)
text_piece (Some found) = (Found (Quoted found.0), found.1 + 1)

-- what stands at the front of a text, and how many bytes it takes
unfoldable pub piece_at : List ℕ → Piece × ℕ
piece_at bs =
    if is_space (front bs) then (Passed, 1)
    else (if front bs == 33 then (Passed, comment_len (drop 1 bs) + 1)
    else (if front bs == 34 then text_piece (quoted (drop 1 bs) false)
    else (if front bs == 60 then flag_at bs
    else word_at bs)))

-- what stands at a place, in front of what is read behind it
abbrev pub found : Piece → ℕ → Result (List Placed) GridFault → Result (List Placed) GridFault
found Passed place rest = rest
found (Found value) place (Ok values) = Ok (record { at = place; value = value } ∷ values)
found (Found value) place (Err fault) = Err fault
found OpenText place rest = Err (BadText place)
found LongNumber place rest = Err (TooManyDigits place)

-- the values of the text behind `skip` bytes, which begins at the place
abbrev pub values_from : List ℕ → ℕ → ℕ → Result (List Placed) GridFault
values_from [] skip place = Ok []
values_from (b ∷ bs) (suc skip) place = values_from bs skip (place + 1)
values_from (b ∷ bs) zero place =
    found (piece_at (b ∷ bs)).0 place (values_from bs ((piece_at (b ∷ bs)).1 - 1) (place + 1))

-- the values of a text
unfoldable pub values_of : List ℕ → Result (List Placed) GridFault
values_of text = values_from text 0 0
