-- Which places of a row are set, by the words that hold it.
use Rattle.std.proofs.Common.{◌≡◌, ◌+◌, ◌*◌, ◌/◌, ◌%◌, ◌^◌, ◌<◌, ◌≤◌, inl, inr, ℕ, suc, Bool, true, false, List, length, get_or, nat_eq, ap, sym, ◌∙◌, arith, slice_get, Some}
use Rattle.std.proofs.Math.Nat.{pow-succ', div-eq_of_lt-le}
use Rattle.std.proofs.lemmas.Bool.{cases_lt}
use Rattle.std.proofs.lemmas.List.{get_or_past}
use Rattle.std.proofs.lemmas.List.FromFn.{length-map-range_with_len}
use Rattle.std.proofs.lemmas.Nat.Bits.{bit_at-zero, bit_at_above, bit_at-trailing_zeros}
use Rattle.std.proofs.lemmas.Option.{slice_get-get_or}
use Rattle.std.specs.Int.{bit_at, trailing_zeros}
use mir.Syntax.{w64}
use Rattle.lane_bits.specs.Inner.Row.{NoneWhere, IsFirst, IsLast}
use Rattle.lane_bits.specs.Inner.Words.{bit_in, bits_of, Hold}

pub length-bits_of : (n : ℕ) (words : List ℕ) → length (bits_of n words) ≡ n
length-bits_of n words = length-map-range_with_len (bit_in words) 0 n

-- a place whose bit is set is one of the row
pub set_within : (words : List ℕ) (bits : List Bool) (at : ℕ) → Hold words bits → bit_in words at ≡ true → at < length bits
set_within words bits at hold set = elim (cases_lt at (length bits)) [
  | inl within ↦ within
  | inr past ↦
      let clear : get_or bits at false ≡ false = get_or_past bits at false past in
      let here : bit_in words at ≡ get_or bits at false = hold.each at in cc
]

pub set_there : (words : List ℕ) (bits : List Bool) (at : ℕ) → Hold words bits → bit_in words at ≡ true → slice_get bits at ≡ Some true
set_there words bits at hold set =
    slice_get-get_or bits at false (set_within words bits at hold set) ∙ ap (λ b. Some b) (sym (hold.each at) ∙ set)

-- no place of the row is set where no bit of the words is
pub none_there : (words : List ℕ) (bits : List Bool) (P : ℕ → Type 0) → Hold words bits →
    ((i : ℕ) → P i → bit_in words i ≡ false) → NoneWhere bits P
none_there words bits P hold clear i within here =
    slice_get-get_or bits i false within ∙ ap (λ b. Some b) (sym (hold.each i) ∙ clear i here)

-- a place of a word, by the word and the bit
pub bit_of_word : (words : List ℕ) (k j : ℕ) → j < 64 → bit_in words (64 * k + j) ≡ nat_eq (bit_at (get_or words k 0) j) 1
bit_of_word words k j below =
    let word : (64 * k + j) / 64 ≡ k = omega arith in
    let bit : (64 * k + j) % 64 ≡ j = omega arith in
    ap (λ q. nat_eq (bit_at (get_or words q 0) ((64 * k + j) % 64)) 1) word
    ∙ ap (λ r. nat_eq (bit_at (get_or words k 0) r) 1) bit

pub clear_word : (words : List ℕ) (i : ℕ) → get_or words (i / 64) 0 ≡ 0 → bit_in words i ≡ false
clear_word words i zero_word =
    ap (λ w. nat_eq (bit_at w (i % 64)) 1) zero_word ∙ ap (λ n. nat_eq n 1) (bit_at-zero (i % 64))

-- the bits before the first that is set, in the first word that is not 0
clear_before : (words : List ℕ) (k t : ℕ) → ((j : ℕ) → j < k → get_or words j 0 ≡ 0) → t < 64 →
    ((j : ℕ) → j < t → bit_at (get_or words k 0) j ≡ 0) → (i : ℕ) → i < 64 * k + t → bit_in words i ≡ false
clear_before words k t words_before near bits_before i before = elim (cases_lt (i / 64) k) [
  | inl word ↦ clear_word words i (words_before (i / 64) word)
  | inr same ↦
      let word : i / 64 ≡ k = omega arith in
      let low : i % 64 < t = omega arith in
      ap (λ q. nat_eq (bit_at (get_or words q 0) (i % 64)) 1) word ∙ ap (λ n. nat_eq n 1) (bits_before (i % 64) low)
]

-- the bits behind the last that is set, in the last word that is not 0
clear_behind : (words : List ℕ) (k t : ℕ) → ((j : ℕ) → k < j → get_or words j 0 ≡ 0) →
    get_or words k 0 < 2 * 2 ^ t → (i : ℕ) → 64 * k + t < i → bit_in words i ≡ false
clear_behind words k t words_behind small i behind = elim (cases_lt k (i / 64)) [
  | inl word ↦ clear_word words i (words_behind (i / 64) word)
  | inr same ↦
      let word : i / 64 ≡ k = omega arith in
      let high : suc t ≤ i % 64 = omega arith in
      let power : get_or words k 0 < 2 ^ suc t = rw (pow-succ' 2 t) small in
      ap (λ q. nat_eq (bit_at (get_or words q 0) (i % 64)) 1) word
      ∙ ap (λ n. nat_eq n 1) (bit_at_above (get_or words k 0) (suc t) (i % 64) power high)
]

-- the highest bit of a number
top_bit : (n t : ℕ) → 2 ^ t ≤ n → n < 2 * 2 ^ t → bit_at n t ≡ 1
top_bit n t low high =
    let once : 1 * 2 ^ t ≤ n = omega arith in
    let twice : n < (1 + 1) * 2 ^ t = omega arith in
    ap (λ q. q % 2) (div-eq_of_lt-le {k = 1} (2 ^ t) {m = n} once twice)

-- the first place of the first word that is not 0
pub first_found : (words : List ℕ) (len k : ℕ) → Hold words (bits_of len words) → ((j : ℕ) → j < k → get_or words j 0 ≡ 0) →
    0 < get_or words k 0 → get_or words k 0 < 2 ^ 64 →
    (64 * k + trailing_zeros w64 (get_or words k 0) < len) × IsFirst (bits_of len words) (Some (64 * k + trailing_zeros w64 (get_or words k 0)))
first_found words len k hold before some fits =
    let word : ℕ = get_or words k 0 in
    let t : ℕ = trailing_zeros w64 word in
    let facts = bit_at-trailing_zeros w64 word some fits in
    let set : bit_in words (64 * k + t) ≡ true = bit_of_word words k t facts.0 ∙ ap (λ n. nat_eq n 1) facts.1 in
    let within : 64 * k + t < length (bits_of len words) = set_within words (bits_of len words) (64 * k + t) hold set in (
      omega (arith, length-bits_of len words),
      (
        set_there words (bits_of len words) (64 * k + t) hold set,
        none_there words (bits_of len words) (λ i. i < 64 * k + t) hold (clear_before words k t before facts.0 facts.2),
      ),
    )

-- the last place of the last word that is not 0
pub last_found : (words : List ℕ) (len k t : ℕ) → Hold words (bits_of len words) → ((j : ℕ) → k < j → get_or words j 0 ≡ 0) →
    2 ^ t ≤ get_or words k 0 → get_or words k 0 < 2 * 2 ^ t → t < 64 →
    (64 * k + t < len) × IsLast (bits_of len words) (Some (64 * k + t))
last_found words len k t hold behind low high near =
    let set : bit_in words (64 * k + t) ≡ true =
    bit_of_word words k t near ∙ ap (λ n. nat_eq n 1) (top_bit (get_or words k 0) t low high) in
    let within : 64 * k + t < length (bits_of len words) = set_within words (bits_of len words) (64 * k + t) hold set in (
      omega (arith, length-bits_of len words),
      (
        set_there words (bits_of len words) (64 * k + t) hold set,
        none_there words (bits_of len words) (λ i. 64 * k + t < i) hold (clear_behind words k t behind high),
      ),
    )

-- where all words are 0, no place is set
pub none_found : (words : List ℕ) (len : ℕ) → Hold words (bits_of len words) → ((j : ℕ) → get_or words j 0 ≡ 0) →
    NoneWhere (bits_of len words) (λ i. Unit {0})
none_found words len hold zeros =
    none_there words (bits_of len words) (λ i. Unit {0}) hold (λ i _. clear_word words i (zeros (i / 64)))

-- places of words that hold a row fit a number of 64 bits
pub place_fits : (words : List ℕ) (len k : ℕ) → Hold words (bits_of len words) → len < 2 ^ 64 → k < length words → 64 * k < 2 ^ 64
place_fits words len k hold fits within = let tight = hold.enough.tight in omega (arith, length-bits_of len words)
