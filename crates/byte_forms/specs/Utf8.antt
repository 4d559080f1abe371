-- The form of texts: their length in bytes, and their bytes, which are UTF-8 (The Unicode Standard, table 3-7).
use Rattle.std.specs.Prelude.{◌≡◌, ℕ, zero, suc, Bool, ◌&&◌, ◌||◌, if◌then◌else◌, List, [], ◌∷◌, length, nat_le, nat_lt, Option, Some, None, IsUtf8}
use Rattle.byte_forms.specs.declared.utf8.Range.{Range}
use Rattle.byte_forms.specs.Forms.{Form}
use Rattle.byte_forms.specs.Parts.{led, just, byte_in, imaged, u32_form}

-- the bytes from one to another
abbrev pub from_to : ℕ → ℕ → Range
from_to low high = record { low = low; high = high }

-- a byte that goes on with a character, where the first one leaves it free
abbrev pub any_more : Range
any_more = from_to 0x80 0xbf

-- the byte lies in the range
abbrev pub lies_in : ℕ → Range → Bool
lies_in b range = nat_le range.low b && nat_le b range.high

-- a first byte of a character: 00 to 7F, or C2 to F4
abbrev pub is_first : ℕ → Bool
is_first b = nat_lt b 0x80 || (nat_le 0xc2 b && nat_le b 0xf4)

-- the ranges of the bytes that a first byte asks for
abbrev pub asked : ℕ → List Range
asked b =
    if nat_lt b 0x80 then []
    else (if nat_lt b 0xe0 then any_more ∷ []
    else (if nat_lt b 0xe1 then from_to 0xa0 0xbf ∷ any_more ∷ []
    else (if nat_lt b 0xed then any_more ∷ any_more ∷ []
    else (if nat_lt b 0xee then from_to 0x80 0x9f ∷ any_more ∷ []
    else (if nat_lt b 0xf0 then any_more ∷ any_more ∷ []
    else (if nat_lt b 0xf1 then from_to 0x90 0xbf ∷ any_more ∷ any_more ∷ []
    else (if nat_lt b 0xf4 then any_more ∷ any_more ∷ any_more ∷ []
    else from_to 0x80 0x8f ∷ any_more ∷ any_more ∷ [])))))))

-- the byte may stand where these ranges are asked for and so many bytes follow it
abbrev pub may_stand : List Range → ℕ → ℕ → Bool
may_stand [] n b = is_first b && nat_le (length (asked b)) n
may_stand (range ∷ ranges) n b = lies_in b range

-- the ranges that are asked for behind the byte
abbrev pub then_asked : List Range → ℕ → List Range
then_asked [] b = asked b
then_asked (range ∷ ranges) b = ranges

-- the first byte, or 0 where there is none
abbrev pub first_of : List ℕ → ℕ
first_of [] = 0
first_of (b ∷ bs) = b

-- the bytes behind the first one
abbrev pub rest_of : List ℕ → Option (List ℕ)
rest_of [] = None
rest_of (b ∷ bs) = Some bs

-- so many bytes, of which the first ones are asked for: a text byte by byte
abbrev pub walk : ℕ → List Range → Form (List ℕ)
walk zero ranges = just []
walk (suc n) ranges =
    led (byte_in (may_stand ranges n)) first_of (λ b. imaged (walk n (then_asked ranges b)) (λ bs. b ∷ bs) rest_of)

-- a text of so many bytes
unfoldable pub utf8_form : ℕ → Form (List ℕ)
utf8_form n = record { fits = λ v. (length v ≡ n) × IsUtf8 v; code = λ v. v; read = (walk n []).read }

-- a text: its length in bytes, and its bytes
unfoldable pub text_form : Form (List ℕ)
text_form = led u32_form length utf8_form
