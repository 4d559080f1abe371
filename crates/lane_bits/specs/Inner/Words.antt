-- Rows of bits in words of 64 bits, the first bit of a word being its lowest.
use Rattle.std.specs.Prelude.{◌≡◌, ℕ, ◌+◌, ◌*◌, ◌/◌, ◌%◌, ◌<◌, ◌≤◌, ◌&&◌, Bool, false, List, length, get_or, map, nat_eq}
use Rattle.std.specs.Int.{bit_at}
use Rattle.std.specs.List.{list_any, range_with_len}
use Rattle.std.specs.Simd.Lanes.{zip2}

-- the bit at a place of the words, 0 behind them
abbrev pub bit_in : List ℕ → ℕ → Bool
bit_in words i = nat_eq (bit_at (get_or words (i / 64) 0) (i % 64)) 1

-- the first n bits of the words
abbrev pub bits_of : ℕ → List ℕ → List Bool
bits_of n words = map (bit_in words) (range_with_len 0 n)

-- there are as many words as so many bits need
pub record AreFor (n : ℕ) (words : List ℕ) : Type 0 where
  pub full : n ≤ 64 * length words
  pub tight : 64 * length words < n + 64

-- the words hold the bits, as few words as can be, and all bits behind them are 0
pub record Hold (words : List ℕ) (bits : List Bool) : Type 0 where
  pub enough : AreFor (length bits) words
  pub each : (i : ℕ) → bit_in words i ≡ get_or bits i false

-- the words from one place to another are joined with the others, and all else is as before
pub record JoinedIn (op : ℕ → ℕ → ℕ) (old other new : List ℕ) (from to : ℕ) : Type 0 where
  pub inside : (i : ℕ) → from ≤ i → i < to → get_or new i 0 ≡ op (get_or old i 0) (get_or other i 0)
  pub before : (i : ℕ) → i < from → get_or new i 0 ≡ get_or old i 0
  pub behind : (i : ℕ) → to ≤ i → get_or new i 0 ≡ get_or old i 0

-- whether two rows have a common bit, whatever rows of one length the words hold
abbrev pub SaysMeet : List ℕ → List ℕ → Bool → Type 0
SaysMeet words others meet =
    (ls rs : List Bool) → Hold words ls → Hold others rs → length ls ≡ length rs →
    meet ≡ list_any (λ bit. bit) (zip2 (λ a b. a && b) ls rs)
