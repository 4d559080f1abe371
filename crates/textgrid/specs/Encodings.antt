-- The text that bytes are, as bytes of UTF-8, or the byte at which the first unit or sequence begins
-- that is not well formed. (Praat manual, "TextGrid file formats"; The Unicode Standard, 3.9 and 23.8.)
use Rattle.std.specs.Prelude.{ℕ, zero, suc, ◌+◌, ◌-◌, ◌*◌, ◌==◌, ◌&&◌, nat_eq, Bool, true, false, List, [], ◌∷◌, ◌++◌, length, drop, if◌then◌else◌, Option, Some, None, Result, Ok, Err, encode_utf8}
use Rattle.std.specs.List.{starts_with}
use Rattle.std.specs.Str.Lossy.{utf8_valid_len}
use Rattle.std.specs.Char.Utf16.{is_high_surrogate, is_low_surrogate, surrogate_pair_char, lone_unit_char}
use Rattle.textgrid.specs.declared.fault.GridFault.{GridFault}
use Rattle.textgrid.specs.declared.fault.GridFault.TheVariants.{BadEncoding}
use Rattle.textgrid.specs.declared.encoding.Encoding.{Encoding}
use Rattle.textgrid.specs.declared.encoding.Encoding.TheVariants.{Utf8, Utf16BigEndian, Utf16LittleEndian}

-- the encoding that the first bytes tell, and how many of them are its mark
abbrev pub mark_of : List ℕ → Encoding × ℕ
mark_of bs =
    if starts_with nat_eq bs (254 ∷ 255 ∷ []) then (Utf16BigEndian, 2)
    else (if starts_with nat_eq bs (255 ∷ 254 ∷ []) then (Utf16LittleEndian, 2)
    else (if starts_with nat_eq bs (239 ∷ 187 ∷ 191 ∷ []) then (Utf8, 3)
    else (Utf8, 0)))

-- the text of bytes in UTF-8 behind a mark of so many bytes
abbrev pub utf8_of : List ℕ → ℕ → Result (List ℕ) GridFault
utf8_of bs mark = if utf8_valid_len bs == length bs then Ok bs else Err (BadEncoding (mark + utf8_valid_len bs))

-- the unit of two bytes
abbrev pub unit : Bool → ℕ → ℕ → ℕ
unit big a b = if big then a * 256 + b else b * 256 + a

-- the character of two surrogates, where they are a pair
abbrev pub pair_at : ℕ → ℕ → Option ℕ
pair_at u v = if is_high_surrogate u && is_low_surrogate v then Some (surrogate_pair_char u v) else None

-- a character that stands alone, and the two bytes that it takes
abbrev pub alone : Option ℕ → Option (ℕ × ℕ)
alone None = None
alone (Some c) = Some (c, 2)

-- the character of a pair, and the four bytes that it takes, or else the one that stands alone
abbrev pub paired : Option ℕ → ℕ → Option (ℕ × ℕ)
paired None u = alone (lone_unit_char u)
paired (Some c) u = Some (c, 4)

-- the character of a unit and what stands behind it
abbrev pub char_of : Bool → ℕ → List ℕ → Option (ℕ × ℕ)
char_of big u [] = alone (lone_unit_char u)
char_of big u (c ∷ []) = alone (lone_unit_char u)
char_of big u (c ∷ d ∷ bs) = paired (pair_at u (unit big c d)) u

-- the character at the front of bytes in UTF-16, and how many bytes it takes; none of a surrogate
-- without a partner and of half a unit
abbrev pub char_at : Bool → List ℕ → Option (ℕ × ℕ)
char_at big [] = None
char_at big (a ∷ []) = None
char_at big (a ∷ b ∷ bs) = char_of big (unit big a b) bs

-- how many bytes the character takes, 1 where there is none
abbrev pub char_len : Option (ℕ × ℕ) → ℕ
char_len None = 1
char_len (Some c) = c.1

-- the character and the text behind it
abbrev pub with_char : Option (ℕ × ℕ) → ℕ → Result (List ℕ) GridFault → Result (List ℕ) GridFault
with_char None place rest = Err (BadEncoding place)
with_char (Some c) place (Ok text) = Ok (encode_utf8 c.0 ++ text)
with_char (Some c) place (Err fault) = Err fault

-- the text of the bytes behind `skip` bytes, which begins at the place
abbrev pub utf16_from : Bool → List ℕ → ℕ → ℕ → Result (List ℕ) GridFault
utf16_from big [] skip place = Ok []
utf16_from big (b ∷ bs) (suc skip) place = utf16_from big bs skip (place + 1)
utf16_from big (b ∷ bs) zero place =
    with_char (char_at big (b ∷ bs)) place (utf16_from big bs (char_len (char_at big (b ∷ bs)) - 1) (place + 1))

-- the text of bytes in UTF-16 behind a mark of two bytes
unfoldable pub utf16_of : Bool → List ℕ → Result (List ℕ) GridFault
utf16_of big bs = utf16_from big bs 0 2

-- the text of bytes behind their mark
abbrev pub text_behind : Encoding → ℕ → List ℕ → Result (List ℕ) GridFault
text_behind Utf8 mark bs = utf8_of bs mark
text_behind Utf16BigEndian mark bs = utf16_of true bs
text_behind Utf16LittleEndian mark bs = utf16_of false bs

-- the text of the bytes of a file
unfoldable pub text_of : List ℕ → Result (List ℕ) GridFault
text_of bs = text_behind (mark_of bs).0 (mark_of bs).1 (drop (mark_of bs).1 bs)
