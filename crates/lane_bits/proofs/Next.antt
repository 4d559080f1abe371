-- Which place of a row is the first one from a place on that is set, by the words that hold it; and whether two rows have a common one.
use Rattle.std.proofs.Common.{◌≡◌, ◌+◌, ◌*◌, ◌/◌, ◌%◌, ◌-◌, ◌^◌, ◌<◌, ◌≤◌, ◌&&◌, inl, inr, ℕ, Bool, true, false, List, length, get_or, nat_eq, ap, sym, ◌∙◌, arith, slice_get, Option, Some, None}
use Rattle.std.proofs.lemmas.Bool.{cases_lt}
use Rattle.std.proofs.lemmas.List.{get_or_past}
use Rattle.std.proofs.lemmas.List.Elements.{All-from_get_or}
use Rattle.std.proofs.lemmas.List.Folds.{list_any_at, list_any_none}
use Rattle.std.proofs.lemmas.Nat.{shr-shr, and_le_l, shr_le}
use Rattle.std.proofs.lemmas.Nat.Bits.{bit_at-zero, bit_at_above, bit_at-trailing_zeros}
use Rattle.std.proofs.lemmas.Option.{slice_get-get_or}
use Rattle.std.proofs.lemmas.Simd.{length-zip2, get_or-zip2}
use Rattle.std.specs.Int.{bit_at, trailing_zeros}
use Rattle.std.specs.Int.Bits.{bit_and}
use lib.Lanes.{zip2}
use mir.Syntax.{w64}
use Rattle.lane_bits.specs.Inner.Row.{IsNext}
use Rattle.lane_bits.specs.Inner.Words.{bit_in, bits_of, Hold, SaysMeet}
use Rattle.lane_bits.proofs.Places.{set_within, set_there, none_there, bit_of_word, clear_word, length-bits_of}
use Rattle.lane_bits.proofs.Rows.{and_held}

-- the bits from a word on before the first that is set
clear_between : (words : List ℕ) (from k t : ℕ) → ((j : ℕ) → from ≤ j → j < k → get_or words j 0 ≡ 0) →
    ((j : ℕ) → j < t → bit_at (get_or words k 0) j ≡ 0) → (i : ℕ) → (64 * from ≤ i) × (i < 64 * k + t) → t < 64 → bit_in words i ≡ false
clear_between words from k t words_before bits_before i between near = elim (cases_lt (i / 64) k) [
  | inl word ↦ let low = between.0 in clear_word words i (words_before (i / 64) (omega arith) word)
  | inr same ↦
      let high = between.1 in
      let word : i / 64 ≡ k = omega arith in
      let low : i % 64 < t = omega arith in
      ap (λ q. nat_eq (bit_at (get_or words q 0) (i % 64)) 1) word ∙ ap (λ n. nat_eq n 1) (bits_before (i % 64) low)
]

-- the first place of the first word from one on that is not 0
pub word_found : (words : List ℕ) (len from k : ℕ) → Hold words (bits_of len words) → from ≤ k →
    ((j : ℕ) → from ≤ j → j < k → get_or words j 0 ≡ 0) → 0 < get_or words k 0 → get_or words k 0 < 2 ^ 64 →
    (64 * k + trailing_zeros w64 (get_or words k 0) < len)
    × IsNext (64 * from) (bits_of len words) (Some (64 * k + trailing_zeros w64 (get_or words k 0)))
word_found words len from k hold order before some fits =
    let t : ℕ = trailing_zeros w64 (get_or words k 0) in
    let facts = bit_at-trailing_zeros w64 (get_or words k 0) some fits in
    let set : bit_in words (64 * k + t) ≡ true = bit_of_word words k t facts.0 ∙ ap (λ n. nat_eq n 1) facts.1 in
    let within : 64 * k + t < length (bits_of len words) = set_within words (bits_of len words) (64 * k + t) hold set in (
      omega (arith, length-bits_of len words),
      (
        omega arith,
        set_there words (bits_of len words) (64 * k + t) hold set,
        none_there words (bits_of len words) (λ i. (64 * from ≤ i) × (i < 64 * k + t)) hold
            (λ i between. clear_between words from k t before facts.2 i between facts.0),
      ),
    )

-- where all words from one on are 0, no place from it on is set
pub no_word_found : (words : List ℕ) (len from : ℕ) → Hold words (bits_of len words) → ((j : ℕ) → from ≤ j → get_or words j 0 ≡ 0) →
    IsNext (64 * from) (bits_of len words) None
no_word_found words len from hold zeros =
    none_there words (bits_of len words) (λ i. 64 * from ≤ i) hold (λ i behind. clear_word words i (zeros (i / 64) (omega arith)))

-- the bits of a word from a place on
shifted : (word s j : ℕ) → bit_at (word / 2 ^ s) j ≡ bit_at word (s + j)
shifted word s j = ap (λ n. n % 2) (shr-shr word s j)

-- a place in the same word, by what is left of the word behind the places before
in_word : (words : List ℕ) (from j : ℕ) → from % 64 + j < 64 →
    bit_in words (from + j) ≡ nat_eq (bit_at (get_or words (from / 64) 0 / 2 ^ (from % 64)) j) 1
in_word words from j near =
    let word : (from + j) / 64 ≡ from / 64 = omega arith in
    let bit : (from + j) % 64 ≡ from % 64 + j = omega arith in
    ap (λ q. nat_eq (bit_at (get_or words q 0) ((from + j) % 64)) 1) word
    ∙ ap (λ r. nat_eq (bit_at (get_or words (from / 64) 0) r) 1) bit
    ∙ ap (λ n. nat_eq n 1) (sym (shifted (get_or words (from / 64) 0) (from % 64) j))

-- a bit that is set is one of 64
bit_near : (word s t : ℕ) → word < 2 ^ 64 → bit_at (word / 2 ^ s) t ≡ 1 → s + t < 64
bit_near word s t fits set = elim (cases_lt (s + t) 64) [
  | inl near ↦ near
  | inr far ↦
      let clear : bit_at word (s + t) ≡ 0 = bit_at_above word 64 (s + t) fits far in
      let same : bit_at (word / 2 ^ s) t ≡ bit_at word (s + t) = shifted word s t in
      absurd (omega arith)
]

-- the next place is in the same word
pub here_found : (words : List ℕ) (len from : ℕ) → Hold words (bits_of len words) →
    0 < get_or words (from / 64) 0 / 2 ^ (from % 64) → get_or words (from / 64) 0 < 2 ^ 64 →
    (from + trailing_zeros w64 (get_or words (from / 64) 0 / 2 ^ (from % 64)) < len)
    × IsNext from (bits_of len words) (Some (from + trailing_zeros w64 (get_or words (from / 64) 0 / 2 ^ (from % 64))))
here_found words len from hold some fits =
    let word : ℕ = get_or words (from / 64) 0 in
    let rest : ℕ = word / 2 ^ (from % 64) in
    let t : ℕ = trailing_zeros w64 rest in
    let small : rest ≤ word = shr_le word (from % 64) in
    let facts = bit_at-trailing_zeros w64 rest some (omega arith) in
    let near : from % 64 + t < 64 = bit_near word (from % 64) t fits facts.1 in
    let set : bit_in words (from + t) ≡ true = in_word words from t near ∙ ap (λ n. nat_eq n 1) facts.1 in
    let within : from + t < length (bits_of len words) = set_within words (bits_of len words) (from + t) hold set in (
      omega (arith, length-bits_of len words),
      (
        omega arith,
        set_there words (bits_of len words) (from + t) hold set,
        none_there words (bits_of len words) (λ i. (from ≤ i) × (i < from + t)) hold (λ i between.
            let low = between.0 in
            let high = between.1 in
            let j : ℕ = i - from in
            let place : from + j ≡ i = omega arith in
            let clear : bit_in words (from + j) ≡ false =
            in_word words from j (omega arith) ∙ ap (λ n. nat_eq n 1) (facts.2 j (omega arith)) in
            ap (bit_in words) (sym place) ∙ clear),
      ),
    )

clear_there : (words : List ℕ) (bits : List Bool) (i : ℕ) → Hold words bits → i < length bits → bit_in words i ≡ false → slice_get bits i ≡ Some false
clear_there words bits i hold within clear = slice_get-get_or bits i false within ∙ ap (λ b. Some b) (sym (hold.each i) ∙ clear)

-- no place from one to another is set, and then comes the next one
joined_next : (words : List ℕ) (bits : List Bool) (from to : ℕ) (found : Option ℕ) → Hold words bits → from ≤ to →
    ((i : ℕ) → from ≤ i → i < to → bit_in words i ≡ false) → IsNext to bits found → IsNext from bits found
joined_next words bits from to None hold order clear next = λ i within low. elim (cases_lt i to) [
  | inl before ↦ clear_there words bits i hold within (clear i low before)
  | inr behind ↦ next i within behind
]
joined_next words bits from to (Some at) hold order clear next =
    let near = next.0 in (
      omega arith,
      next.1,
      λ i within between. elim (cases_lt i to) [
        | inl before ↦ clear_there words bits i hold within (clear i between.0 before)
        | inr behind ↦ next.2 i within (behind, between.1)
      ],
    )

-- the next place is in a word behind
pub behind_found : (words : List ℕ) (bits : List Bool) (from : ℕ) (found : Option ℕ) → Hold words bits →
    get_or words (from / 64) 0 / 2 ^ (from % 64) ≡ 0 → IsNext (64 * (from / 64 + 1)) bits found → IsNext from bits found
behind_found words bits from found hold zero_rest next =
    let clear : (i : ℕ) → from ≤ i → i < 64 * (from / 64 + 1) → bit_in words i ≡ false = λ i low high.
    let j : ℕ = i - from in
    let place : from + j ≡ i = omega arith in
    ap (bit_in words) (sym place) ∙ in_word words from j (omega arith)
    ∙ ap (λ n. nat_eq (bit_at n j) 1) zero_rest ∙ ap (λ n. nat_eq n 1) (bit_at-zero j) in
    joined_next words bits from (64 * (from / 64 + 1)) found hold (omega arith) clear next

pub past_found : (words : List ℕ) (len from : ℕ) → Hold words (bits_of len words) → length words ≤ from / 64 → IsNext from (bits_of len words) None
past_found words len from hold past =
    none_there words (bits_of len words) (λ i. from ≤ i) hold
    (λ i behind. clear_word words i (get_or_past words (i / 64) 0 (omega arith)))

-- words that have a common bit
pub meet_there : (ws vs : List ℕ) (k : ℕ) → length ws ≡ length vs → k < length ws → get_or ws k 0 < 2 ^ 64 →
    0 < bit_and (get_or ws k 0) (get_or vs k 0) → SaysMeet ws vs true
meet_there ws vs k long within fits some ls rs left right same =
    let bits : List Bool = zip2 (λ a b. a && b) ls rs in
    let hold : Hold (zip2 bit_and ws vs) bits = and_held ws vs ls rs left right same in
    let word : ℕ = bit_and (get_or ws k 0) (get_or vs k 0) in
    let t : ℕ = trailing_zeros w64 word in
    let small : word ≤ get_or ws k 0 = and_le_l (get_or ws k 0) (get_or vs k 0) in
    let facts = bit_at-trailing_zeros w64 word some (omega arith) in
    let here : get_or (zip2 bit_and ws vs) k 0 ≡ word = get_or-zip2 bit_and ws vs k 0 0 0 within (omega arith) in
    let set : bit_in (zip2 bit_and ws vs) (64 * k + t) ≡ true =
    bit_of_word (zip2 bit_and ws vs) k t facts.0 ∙ ap (λ w. nat_eq (bit_at w t) 1) here ∙ ap (λ n. nat_eq n 1) facts.1 in
    sym (list_any_at (λ bit. bit) bits (64 * k + t) false (set_within (zip2 bit_and ws vs) bits (64 * k + t) hold set)
    (sym (hold.each (64 * k + t)) ∙ set))

-- words that have none
pub meet_nowhere : (ws vs : List ℕ) → length ws ≡ length vs → ((j : ℕ) → j < length ws → bit_and (get_or ws j 0) (get_or vs j 0) ≡ 0) →
    SaysMeet ws vs false
meet_nowhere ws vs long zeros ls rs left right same =
    let bits : List Bool = zip2 (λ a b. a && b) ls rs in
    let both : List ℕ = zip2 bit_and ws vs in
    let hold : Hold both bits = and_held ws vs ls rs left right same in
    let count : length both ≡ length ws = length-zip2 bit_and ws vs long in
    let zero : (j : ℕ) → get_or both j 0 ≡ 0 = λ j. elim (cases_lt j (length ws)) [
      | inl within ↦ get_or-zip2 bit_and ws vs j 0 0 0 within (omega arith) ∙ zeros j within
      | inr past ↦ get_or_past both j 0 (omega arith)
    ] in
    sym (list_any_none (λ bit. bit) bits (All-from_get_or (λ bit. bit ≡ false) bits false (λ i within. sym (hold.each i) ∙ clear_word both i (zero (i / 64)))))
