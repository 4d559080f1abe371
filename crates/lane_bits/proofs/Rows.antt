-- A row of bits and the words that it lies in.
use Rattle.std.proofs.Common.{◌≡◌, ◌≢◌, ◌/◌, ◌%◌, ◌<◌, inl, inr, ℕ, min, max, Bool, true, false, if◌then◌else◌, ◌||◌, ◌&&◌, List, ◌++◌, length, map, take, drop, get_or, set, replicate, nat_eq, slice_get, Some, refl, ap, sym, ◌∙◌, subst, arith}
use Rattle.std.proofs.Math.Seq.{take-append_seam}
use Rattle.std.proofs.lemmas.Bool.{cases_eq, cases_lt}
use Rattle.std.proofs.lemmas.Bool.Decides.{nat_tests}
use Rattle.std.proofs.lemmas.Grind.{div_ceil_times}
use Rattle.std.proofs.lemmas.List.{ext_get_or, get_or_past, get_or-map, length-map, length-set, get_or-set_same, get_or-set_other}
use Rattle.std.proofs.lemmas.List.FromFn.{length-map-range_with_len, get_or-map-range_with_len}
use Rattle.std.proofs.lemmas.Nat.Bits.{bit_at-zero, bit_at_or, bit_at_and, bit_at-lt}
use Rattle.std.proofs.lemmas.Option.{slice_get-get_or}
use Rattle.std.proofs.lemmas.Simd.{length-replicate, get_or-replicate, length-zip2, get_or-zip2}
use Rattle.std.specs.Int.{bit_at, div_ceil}
use Rattle.std.specs.Int.Bits.{bit_and, bit_or}
use lib.Lanes.{zip2}
use Rattle.lane_bits.specs.Inner.Row.{is_between}
use Rattle.lane_bits.specs.Inner.Words.{bit_in, bits_of, AreFor, Hold}

-- words that hold bits show them, and nothing else
pub held_is : (words : List ℕ) (bits : List Bool) (n : ℕ) → Hold words bits → length bits ≡ n → bits_of n words ≡ bits
held_is words bits n hold long =
    let count : length (bits_of n words) ≡ n = length-map-range_with_len (bit_in words) 0 n in
    ext_get_or false (bits_of n words) bits (count ∙ sym long) (λ i within.
    get_or-map-range_with_len (bit_in words) 0 n i i false (omega arith) (omega arith) ∙ hold.each i)

-- and so hold what they show
pub row_held : (words : List ℕ) (bits : List Bool) (n : ℕ) → Hold words bits → length bits ≡ n → Hold words (bits_of n words)
row_held words bits n hold long = subst (λ (bs : List Bool). Hold words bs) (sym (held_is words bits n hold long)) hold

pub length-shown : (n : ℕ) (words : List ℕ) → length (bits_of n words) ≡ n
length-shown n words = length-map-range_with_len (bit_in words) 0 n

-- what a slice of all words of a vector wrote is what the vector has
pub whole_slice : (n : ℕ) (new old : List ℕ) → length new ≡ n → take n (new ++ drop (length new) old) ≡ new
whole_slice n new old long =
    ap (λ m. take m (new ++ drop (length new) old)) (sym long) ∙ take-append_seam new (drop (length new) old)

-- the bit at a place of a row, as its words have it
pub shown : (words : List ℕ) (n at : ℕ) → at < length (bits_of n words) → slice_get (bits_of n words) at ≡ Some (bit_in words at)
shown words n at within =
    let count = length-shown n words in
    slice_get-get_or (bits_of n words) at false within
    ∙ ap (λ b. Some b) (get_or-map-range_with_len (bit_in words) 0 n at at false (omega arith) (omega arith))

bit_of_zero : (words : List ℕ) (i : ℕ) → get_or words (i / 64) 0 ≡ 0 → bit_in words i ≡ false
bit_of_zero words i zero_word =
    ap (λ w. nat_eq (bit_at w (i % 64)) 1) zero_word ∙ ap (λ n. nat_eq n 1) (bit_at-zero (i % 64))

get_or-zeros : (n i : ℕ) → let zeros : List ℕ = replicate n 0 in let none : ℕ = 0 in get_or zeros i none ≡ none
get_or-zeros n i =
    let zeros : List ℕ = replicate n 0 in
    let long : length zeros ≡ n = length-replicate n 0 in
    let none : ℕ = 0 in
    elim (cases_lt i n) [
      | inl within ↦ get_or-replicate n i none none within
      | inr past ↦ get_or_past zeros i none (omega arith)
    ]

-- words that are 0 hold bits none of which is set
pub zeros_held : (m : ℕ) (bits : List Bool) → AreFor (length bits) (replicate m 0) → ((i : ℕ) → get_or bits i false ≡ false) →
    Hold (replicate m 0) bits
zeros_held m bits enough clear = record {
  enough = enough;
  each = λ i. bit_of_zero (replicate m 0) i (get_or-zeros m (i / 64)) ∙ sym (clear i);
}

pub clear_replicate : (n i : ℕ) → get_or (replicate n false) i false ≡ false
clear_replicate n i = elim (cases_lt i n) [
  | inl within ↦ get_or-replicate n i false false within
  | inr past ↦ get_or_past (replicate n false) i false (omega (arith, length-replicate n false))
]

-- the words of a new row
pub new_held : (n : ℕ) → Hold (replicate (div_ceil n 64) 0) (replicate n false)
new_held n =
    let zeros : List ℕ = replicate (div_ceil n 64) 0 in
    let many : length zeros ≡ div_ceil n 64 = length-replicate (div_ceil n 64) 0 in
    let long = length-replicate n false in
    let bounds = div_ceil_times n 64 (omega arith) in
    zeros_held (div_ceil n 64) (replicate n false) (record { full = omega arith; tight = omega arith }) (clear_replicate n)

-- the words of a row that no number passes
pub none_held : (p : ℕ → Bool) (column : List ℕ) (m : ℕ) → AreFor (length column) (replicate m 0) → ((x : ℕ) → p x ≡ false) →
    Hold (replicate m 0) (map p column)
none_held p column m enough none =
    zeros_held m (map p column) (subst (λ n. AreFor n (replicate m 0)) (sym (length-map column p)) enough) (λ i. elim (cases_lt i (length column)) [
      | inl within ↦ get_or-map p column i 0 false within ∙ none (get_or column i 0)
      | inr past ↦ get_or_past (map p column) i false (omega (arith, length-map column p))
    ])

pub not_between : (low high : ℕ) → high < low → (x : ℕ) → is_between low high x ≡ false
not_between low high crossed x = grind (arith, nat_tests)

bit_test : (b : Bool) → nat_eq (if b then 1 else 0) 1 ≡ b
bit_test true = refl
bit_test false = refl

-- one bit of one word set or cleared
pub set_held : (words : List ℕ) (bits : List Bool) (at word : ℕ) (bit : Bool) → Hold words bits → at < length bits →
    bit_at word (at % 64) ≡ (if bit then 1 else 0) →
    ((i : ℕ) → i < 64 → i ≢ at % 64 → bit_at word i ≡ bit_at (get_or words (at / 64) 0) i) →
    Hold (set words (at / 64) word) (set bits at bit)
set_held words bits at word bit hold within here others =
    let q : ℕ = at / 64 in
    let now : List ℕ = set words q word in
    let long : length now ≡ length words = length-set words q word in
    let same : length (set bits at bit) ≡ length bits = length-set bits at bit in
    let full = hold.enough.full in
    let tight = hold.enough.tight in
    let inside : q < length words = omega arith in
    let in_word : (i : ℕ) → i / 64 ≡ q → bit_in now i ≡ nat_eq (bit_at word (i % 64)) 1 = λ i e.
    ap (λ k. nat_eq (bit_at (get_or now k 0) (i % 64)) 1) e
    ∙ ap (λ w. nat_eq (bit_at w (i % 64)) 1) (get_or-set_same words q word 0 inside) in
    let before : (i : ℕ) → i ≢ at → bit_in words i ≡ get_or (set bits at bit) i false = λ i other.
    hold.each i ∙ sym (get_or-set_other bits at i bit false other) in
    record {
      enough = record { full = omega arith; tight = omega arith };
      each = λ i. elim (cases_eq i at) [
        | inl e ↦
            let e' : at ≡ i = sym e in
            subst (λ n. bit_in now n ≡ get_or (set bits at bit) n false) e'
            (in_word at refl ∙ ap (λ n. nat_eq n 1) here ∙ bit_test bit ∙ sym (get_or-set_same bits at bit false within))
        | inr other ↦ elim (cases_eq (i / 64) q) [
          | inl word_same ↦
              in_word i word_same
              ∙ ap (λ n. nat_eq n 1) (others (i % 64) (omega arith) (λ e. other (omega arith)))
              ∙ ap (λ k. nat_eq (bit_at (get_or words k 0) (i % 64)) 1) (sym word_same)
              ∙ before i other
          | inr word_other ↦
              ap (λ w. nat_eq (bit_at w (i % 64)) 1) (get_or-set_other words q (i / 64) word 0 word_other) ∙ before i other
        ]
      ];
    }

-- two rows joined, where the words are joined bit by bit
joined_held : (op : ℕ → ℕ → ℕ) (f : Bool → Bool → Bool) → ((a b j : ℕ) → nat_eq (bit_at (op a b) j) 1 ≡ f (nat_eq (bit_at a j) 1) (nat_eq (bit_at b j) 1)) →
    f false false ≡ false → (ws vs : List ℕ) (ls rs : List Bool) → Hold ws ls → Hold vs rs → length ls ≡ length rs → Hold (zip2 op ws vs) (zip2 f ls rs)
joined_held op f law none ws vs ls rs left right same =
    let left_full = left.enough.full in
    let left_tight = left.enough.tight in
    let right_full = right.enough.full in
    let right_tight = right.enough.tight in
    let words_same : length ws ≡ length vs = omega arith in
    let words_long : length (zip2 op ws vs) ≡ length ws = length-zip2 op ws vs words_same in
    let bits_long : length (zip2 f ls rs) ≡ length ls = length-zip2 f ls rs same in
    record {
      enough = record { full = omega arith; tight = omega arith };
      each = λ i. elim (cases_lt i (length ls)) [
        | inl within ↦
            let inside : i / 64 < length ws = omega arith in
            ap (λ w. nat_eq (bit_at w (i % 64)) 1) (get_or-zip2 op ws vs (i / 64) 0 0 0 inside (omega arith))
            ∙ law (get_or ws (i / 64) 0) (get_or vs (i / 64) 0) (i % 64)
            ∙ ap (λ b. f b (bit_in vs i)) (left.each i) ∙ ap (λ b. f (get_or ls i false) b) (right.each i)
            ∙ sym (get_or-zip2 f ls rs i false false false within (omega arith))
        | inr past ↦
            let left_clear : bit_in ws i ≡ false = left.each i ∙ get_or_past ls i false past in
            let right_clear : bit_in vs i ≡ false = right.each i ∙ get_or_past rs i false (omega arith) in
            let joined_clear : bit_in (zip2 op ws vs) i ≡ false = elim (cases_lt (i / 64) (length ws)) [
              | inl inside ↦
                  ap (λ w. nat_eq (bit_at w (i % 64)) 1) (get_or-zip2 op ws vs (i / 64) 0 0 0 inside (omega arith))
                  ∙ law (get_or ws (i / 64) 0) (get_or vs (i / 64) 0) (i % 64)
                  ∙ ap (λ b. f b (bit_in vs i)) left_clear ∙ ap (λ b. f false b) right_clear ∙ none
              | inr outside ↦ bit_of_zero (zip2 op ws vs) i (get_or_past (zip2 op ws vs) (i / 64) 0 (omega arith))
            ] in
            joined_clear ∙ sym (get_or_past (zip2 f ls rs) i false (omega arith))
      ];
    }

or_law : (a b : ℕ) → a < 2 → b < 2 → nat_eq (max a b) 1 ≡ (nat_eq a 1 || nat_eq b 1)
or_law a b left right = elim (cases_lt a 1) [
  | inl none_left ↦ let e : a ≡ 0 = omega arith in elim (cases_lt b 1) [
    | inl none_right ↦ let e' : b ≡ 0 = omega arith in rw (e, e') refl
    | inr one_right ↦ let e' : b ≡ 1 = omega arith in rw (e, e') refl
  ]
  | inr one_left ↦ let e : a ≡ 1 = omega arith in elim (cases_lt b 1) [
    | inl none_right ↦ let e' : b ≡ 0 = omega arith in rw (e, e') refl
    | inr one_right ↦ let e' : b ≡ 1 = omega arith in rw (e, e') refl
  ]
]

and_law : (a b : ℕ) → a < 2 → b < 2 → nat_eq (min a b) 1 ≡ (nat_eq a 1 && nat_eq b 1)
and_law a b left right = elim (cases_lt a 1) [
  | inl none_left ↦ let e : a ≡ 0 = omega arith in elim (cases_lt b 1) [
    | inl none_right ↦ let e' : b ≡ 0 = omega arith in rw (e, e') refl
    | inr one_right ↦ let e' : b ≡ 1 = omega arith in rw (e, e') refl
  ]
  | inr one_left ↦ let e : a ≡ 1 = omega arith in elim (cases_lt b 1) [
    | inl none_right ↦ let e' : b ≡ 0 = omega arith in rw (e, e') refl
    | inr one_right ↦ let e' : b ≡ 1 = omega arith in rw (e, e') refl
  ]
]

pub or_held : (ws vs : List ℕ) (ls rs : List Bool) → Hold ws ls → Hold vs rs → length ls ≡ length rs →
    Hold (zip2 bit_or ws vs) (zip2 (λ a b. a || b) ls rs)
or_held = joined_held bit_or (λ a b. a || b)
    (λ a b j. ap (λ n. nat_eq n 1) (bit_at_or a b j) ∙ or_law (bit_at a j) (bit_at b j) (bit_at-lt a j) (bit_at-lt b j)) refl

pub and_held : (ws vs : List ℕ) (ls rs : List Bool) → Hold ws ls → Hold vs rs → length ls ≡ length rs →
    Hold (zip2 bit_and ws vs) (zip2 (λ a b. a && b) ls rs)
and_held = joined_held bit_and (λ a b. a && b)
    (λ a b j. ap (λ n. nat_eq n 1) (bit_at_and a b j) ∙ and_law (bit_at a j) (bit_at b j) (bit_at-lt a j) (bit_at-lt b j)) refl

-- a row whose words were all written shows what they hold
module _ (n count : ℕ) (new old : List ℕ) (bits : List Bool) (all : length new ≡ count) (hold : Hold new bits) (long : length bits ≡ n) where
  pub written_held : Hold (take count (new ++ drop (length new) old)) (bits_of n (take count (new ++ drop (length new) old)))
  written_held = rw (whole_slice count new old all) (row_held new bits n hold long)

  pub written_is : bits_of n (take count (new ++ drop (length new) old)) ≡ bits
  written_is = rw (whole_slice count new old all) (held_is new bits n hold long)

-- the words of a row hold the bits that it is seen as
pub seen_held : (words : List ℕ) (n : ℕ) (bits : List Bool) → Hold words (bits_of n words) → bits_of n words ≡ bits → (Hold words bits) × (length bits ≡ n)
seen_held words n bits hold seen =
    (subst (λ (bs : List Bool). Hold words bs) seen hold, ap length (sym seen) ∙ length-shown n words)
