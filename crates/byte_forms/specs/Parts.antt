-- The forms of which every code is made: numbers, one form behind another, records, and variants by their tag.
use Rattle.std.specs.Prelude.{◌≡◌, ℕ, zero, suc, ◌<◌, ◌^◌, Bool, true, ◌&&◌, ◌==◌, if◌then◌else◌, List, [], ◌∷◌, ◌++◌, length, take, drop, nat_le, nat_lt, Option, Some, None, Result, Ok, Err}
use Rattle.std.specs.Int.{w32, w64, to_be_bytes, from_be_bytes}
use Rattle.byte_forms.specs.Forms.{Form, ◌>>=◌}

-- Numbers.

-- the number of the first bytes, where there are so many
abbrev pub number_in : ℕ → (List ℕ → ℕ) → List ℕ → Result (ℕ × List ℕ) ℕ
number_in count number bytes =
    if nat_le count (length bytes) then Ok (number (take count bytes), drop count bytes) else Err 0

-- a number of four bytes, the highest first
unfoldable pub u32_form : Form ℕ
u32_form = record { fits = λ n. n < 2 ^ 32; code = to_be_bytes w32; read = number_in 4 (from_be_bytes w32) }

-- a number of eight bytes, the highest first
unfoldable pub u64_form : Form ℕ
u64_form = record { fits = λ n. n < 2 ^ 64; code = to_be_bytes w64; read = number_in 8 (from_be_bytes w64) }

-- the first byte, where it passes the test
abbrev pub byte_at : (ℕ → Bool) → List ℕ → Result (ℕ × List ℕ) ℕ
byte_at test [] = Err 0
byte_at test (b ∷ rest) = if test b then Ok (b, rest) else Err (suc (length rest))

-- a byte that passes a test
unfoldable pub byte_in : (ℕ → Bool) → Form ℕ
byte_in test = record { fits = λ b. (b < 256) × (test b ≡ true); code = λ b. b ∷ []; read = byte_at test }

-- a byte below a number
abbrev pub byte_below : ℕ → Form ℕ
byte_below count = byte_in (λ b. nat_lt b count)

-- a byte from one number to another
abbrev pub byte_from_to : ℕ → ℕ → Form ℕ
byte_from_to low high = byte_in (λ b. nat_le low b && nat_le b high)

-- one byte
abbrev pub byte_is : ℕ → Form ℕ
byte_is n = byte_in (λ b. b == n)

-- Values of other types.

-- one value, which takes no byte
unfoldable pub just : {A : Type 0} → A → Form A
just x = record { fits = λ v. v ≡ x; code = λ v. []; read = λ bytes. Ok (x, bytes) }

-- what was read, as a value of another type
abbrev pub read_as : {A B : Type 0} → (A → B) → A × List ℕ → Result (B × List ℕ) ℕ
read_as of x = Ok (of x.0, x.1)

-- a value that is made of one that fits
abbrev pub FitsAs : {A B : Type 0} → Form A → (A → B) → B → Option A → Type 0
FitsAs f of v None = ⊥
FitsAs f of v (Some a) = (v ≡ of a) × f.fits a

-- the code of the value that it is made of
abbrev pub code_as : {A : Type 0} → Form A → Option A → List ℕ
code_as f None = []
code_as f (Some a) = f.code a

-- a variant, in the form of its fields
unfoldable pub imaged : {A B : Type 0} → Form A → (A → B) → (B → Option A) → Form B
imaged f of back = record {
  fits = λ v. FitsAs f of v (back v);
  code = λ v. code_as f (back v);
  read = λ bytes. f.read bytes >>= read_as of;
}

-- a record, in the form of its fields
unfoldable pub shaped : {A B : Type 0} → Form A → (A → B) → (B → A) → Form B
shaped f of parts = record {
  fits = λ v. f.fits (parts v);
  code = λ v. f.code (parts v);
  read = λ bytes. f.read bytes >>= read_as of;
}

-- One form behind another.

-- the second value of a pair, behind the first
abbrev pub with_first : {A B : Type 0} → A → B × List ℕ → Result ((A × B) × List ℕ) ℕ
with_first a y = Ok ((a, y.0), y.1)

-- the second reading of a pair, behind the first
abbrev pub second_of : {A B : Type 0} → Form B → A × List ℕ → Result ((A × B) × List ℕ) ℕ
second_of g x = g.read x.1 >>= with_first x.0

-- two values, one behind the other
unfoldable pub pair : {A B : Type 0} → Form A → Form B → Form (A × B)
pair f g = record {
  fits = λ p. f.fits p.0 × g.fits p.1;
  code = λ p. f.code p.0 ++ g.code p.1;
  read = λ bytes. f.read bytes >>= second_of g;
}

-- the reading that what was read leads to
abbrev pub led_on : {X A : Type 0} → (X → Form A) → X × List ℕ → Result (A × List ℕ) ℕ
led_on at x = (at x.0).read x.1

-- a value behind something of it that tells its form: a length, or which variant it is
unfoldable pub led : {X A : Type 0} → Form X → (A → X) → (X → Form A) → Form A
led head of at = record {
  fits = λ v. head.fits (of v) × (at (of v)).fits v;
  code = λ v. head.code (of v) ++ (at (of v)).code v;
  read = λ bytes. head.read bytes >>= led_on at;
}

-- whether a value is there
abbrev pub presence_of : {A : Type 0} → Option A → ℕ
presence_of None = 0
presence_of (Some v) = 1

-- nothing, or a value
abbrev pub option_at : {A : Type 0} → Form A → ℕ → Form (Option A)
option_at f zero = just None
option_at f (suc n) = imaged f Some (λ o. o)

-- a value that may be there: 0, or 1 and the value
unfoldable pub option_of : {A : Type 0} → Form A → Form (Option A)
option_of f = led (byte_below 2) presence_of (option_at f)
