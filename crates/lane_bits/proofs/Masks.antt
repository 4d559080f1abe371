-- The bits of a number, each of which says whether a test holds of an element.
use Rattle.std.proofs.Common.{◌≡◌, ◌+◌, ◌*◌, ◌/◌, ◌%◌, ◌^◌, ◌<◌, ◌≤◌, inl, inr, ℕ, suc, Bool, true, false, cond, List, [], ◌∷◌, ◌++◌, length, map, take, drop, get_or, set, nat_eq, refl, ap, sym, ◌∙◌, subst, arith, length-set}
use Rattle.std.proofs.Math.Nat.{pow-le-pow_right, pow-succ', mul_assoc}
use Rattle.std.proofs.Math.Seq.{take-add}
use Rattle.std.proofs.lemmas.List.{drop-drop, map-append, length-map, length-take, length-take-le, length-drop, take-map, drop-map, get_or-take, get_or-drop, get_or-set_same, get_or-set_other, get_or_past, take_all}
use Rattle.std.proofs.lemmas.Bool.{cases_lt}
use Rattle.std.proofs.lemmas.Nat.Bits.{bit_at-zero}
use Rattle.std.proofs.lemmas.Simd.{mask_l-lt, bit_mask_l}
use lib.Lanes.{mask_l}
use mir.Val.{bool_byte}
use Rattle.lane_bits.specs.Inner.Words.{bit_in, AreFor, Hold}

mask_cat : (xs ys : List Bool) → mask_l (xs ++ ys) ≡ mask_l xs + 2 ^ length xs * mask_l ys
mask_cat [] ys = grind arith
mask_cat (x ∷ xs) ys =
    let more : mask_l (xs ++ ys) ≡ mask_l xs + 2 ^ length xs * mask_l ys = mask_cat xs ys in
    let twice : 2 ^ suc (length xs) * mask_l ys ≡ 2 * (2 ^ length xs * mask_l ys) =
    ap (λ n. n * mask_l ys) (pow-succ' 2 (length xs)) ∙ mul_assoc 2 (2 ^ length xs) (mask_l ys) in
    omega arith

-- the bits of at most k elements are below 2 ^ k
pub mask_few : (p : ℕ → Bool) (xs : List ℕ) (k : ℕ) → length xs ≤ k → mask_l (map p xs) < 2 ^ k
mask_few p xs k few =
    let below : mask_l (map p xs) < 2 ^ length (map p xs) = mask_l-lt (map p xs) in
    let below' : mask_l (map p xs) < 2 ^ length xs = subst (λ n. mask_l (map p xs) < 2 ^ n) (length-map xs p) below in
    let wide : 2 ^ length xs ≤ 2 ^ k = pow-le-pow_right {n = 2} (omega arith) {i = length xs} {j = k} few in
    omega arith

-- eight elements before k others
pub eight_more : (p : ℕ → Bool) (column : List ℕ) (from k word eight : ℕ) → from + 8 ≤ length column →
    eight ≡ mask_l (map p (take 8 (drop from column))) → word ≡ mask_l (map p (take k (drop (from + 8) column))) →
    word * 256 + eight ≡ mask_l (map p (take (8 + k) (drop from column)))
eight_more p column from k word eight room here behind =
    let xs : List ℕ = drop from column in
    let long : length (map p (take 8 xs)) ≡ 8 =
    length-map (take 8 xs) p ∙ length-take-le 8 xs (omega (arith, length-drop from column)) in
    let parts : map p (take (8 + k) xs) ≡ map p (take 8 xs) ++ map p (take k (drop 8 xs)) =
    ap (map p) (take-add 8 k xs) ∙ map-append p (take 8 xs) (take k (drop 8 xs)) in
    let sum : mask_l (map p (take (8 + k) xs)) ≡ mask_l (map p (take 8 xs)) + 2 ^ 8 * mask_l (map p (take k (drop 8 xs))) =
    ap mask_l parts ∙ mask_cat (map p (take 8 xs)) (map p (take k (drop 8 xs)))
    ∙ ap (λ n. mask_l (map p (take 8 xs)) + 2 ^ n * mask_l (map p (take k (drop 8 xs)))) long in
    let there : word ≡ mask_l (map p (take k (drop 8 xs))) =
    behind ∙ ap (λ ys. mask_l (map p (take k ys))) (sym (drop-drop 8 from column)) in
    omega arith

pub taken_few : (p : ℕ → Bool) (xs : List ℕ) (n k word : ℕ) → word ≡ mask_l (map p (take n xs)) → n ≤ k → word < 2 ^ k
taken_few p xs n k word is few =
    let below : mask_l (map p (take n xs)) < 2 ^ k = mask_few p (take n xs) k (rw (length-take n xs) (omega arith)) in
    omega arith

-- each of the first n words is the bits of 64 elements
abbrev pub AreMasks : (ℕ → Bool) → List ℕ → List ℕ → ℕ → Type 0
AreMasks p column words n = (k : ℕ) → k < n → get_or words k 0 ≡ mask_l (map p (take 64 (drop (64 * k) column)))

test_of_bit : (b : Bool) → nat_eq (cond b 1 0) 1 ≡ b
test_of_bit true = refl
test_of_bit false = refl

-- a bit of a word that is the bits of 64 elements
bit_of_masks : (p : ℕ → Bool) (column words : List ℕ) (i : ℕ) →
    get_or words (i / 64) 0 ≡ mask_l (map p (take 64 (drop (64 * (i / 64)) column))) → bit_in words i ≡ get_or (map p column) i false
bit_of_masks p column words i word =
    let q : ℕ = i / 64 in
    let j : ℕ = i % 64 in
    let mask : List Bool = map p (take 64 (drop (64 * q) column)) in
    let bit : mask_l mask / 2 ^ j % 2 ≡ cond (get_or mask j false) 1 0 = bit_mask_l mask j in
    let same : mask ≡ take 64 (drop (64 * q) (map p column)) =
    sym (take-map p 64 (drop (64 * q) column)) ∙ ap (take 64) (sym (drop-map p (64 * q) column)) in
    let read : get_or mask j false ≡ get_or (map p column) (64 * q + j) false =
    ap (λ m. get_or m j false) same ∙ get_or-take 64 (drop (64 * q) (map p column)) j false (omega arith)
    ∙ get_or-drop (64 * q) (map p column) j false in
    let place : 64 * q + j ≡ i = omega arith in
    ap (λ w. nat_eq (w / 2 ^ j % 2) 1) word ∙ ap (λ n. nat_eq n 1) bit ∙ test_of_bit (get_or mask j false) ∙ read
    ∙ ap (λ n. get_or (map p column) n false) place

bit_behind : (p : ℕ → Bool) (column words : List ℕ) (i : ℕ) → length words ≤ i / 64 → length column ≤ i →
    bit_in words i ≡ get_or (map p column) i false
bit_behind p column words i past behind =
    let long : length (map p column) ≡ length column = length-map column p in
    ap (λ w. nat_eq (w / 2 ^ (i % 64) % 2) 1) (get_or_past words (i / 64) 0 past)
    ∙ ap (λ n. nat_eq n 1) (bit_at-zero (i % 64))
    ∙ sym (get_or_past (map p column) i false (omega arith))

-- words that are the bits of all elements hold what the test says of them
pub held_by_masks : (p : ℕ → Bool) (column words : List ℕ) → AreFor (length column) words → AreMasks p column words (length words) →
    Hold words (map p column)
held_by_masks p column words enough masks = record {
  enough = subst (λ n. AreFor n words) (sym (length-map column p)) enough;
  each = λ i. elim (cases_lt (i / 64) (length words)) [
    | inl within ↦ bit_of_masks p column words i (masks (i / 64) within)
    | inr past ↦ bit_behind p column words i past (omega arith)
  ];
}

-- the same where the last word was set by itself
pub held_with_rest : (p : ℕ → Bool) (column words : List ℕ) (word : ℕ) → AreFor (length column) words →
    AreMasks p column words (length column / 64) → length column / 64 < length words →
    word ≡ mask_l (map p (drop (64 * (length column / 64)) column)) →
    Hold (set words (length column / 64) word) (map p column)
held_with_rest p column words word enough masks within last =
    let whole : ℕ = length column / 64 in
    let set_words : List ℕ = set words whole word in
    let long : length set_words ≡ length words = length-set words whole word in
    let rest : drop (64 * whole) column ≡ take 64 (drop (64 * whole) column) =
    sym (take_all 64 (drop (64 * whole) column) (omega (arith, length-drop (64 * whole) column))) in
    let here : get_or set_words whole 0 ≡ mask_l (map p (take 64 (drop (64 * whole) column))) =
    get_or-set_same words whole word 0 within ∙ last ∙ ap (λ xs. mask_l (map p xs)) rest in
    held_by_masks p column set_words (record { full = omega arith; tight = omega arith })
    (λ k below. elim (cases_lt k whole) [
      | inl before ↦ get_or-set_other words whole k word 0 (λ e. omega arith) ∙ masks k before
      | inr from ↦ let e : whole ≡ k = omega arith in
          subst (λ n. get_or set_words n 0 ≡ mask_l (map p (take 64 (drop (64 * n) column)))) e here
    ])

-- the bits of fewer than 64 elements are below 2 ^ 63
pub rest_few : (p : ℕ → Bool) (column : List ℕ) (at word : ℕ) → word ≡ mask_l (map p (drop at column)) → length column ≤ at + 63 → word < 2 ^ 63
rest_few p column at word is few =
    let below : mask_l (map p (drop at column)) < 2 ^ 63 = mask_few p (drop at column) 63 (omega (arith, length-drop at column)) in
    omega arith

pub bit_small : (b : Bool) → bool_byte b ≤ 1
bit_small true = omega arith
bit_small false = omega arith

-- the bits of at most 55 elements are below 2 ^ 55
pub behind_few : (p : ℕ → Bool) (column : List ℕ) (at word : ℕ) → word ≡ mask_l (map p (drop at column)) → length column ≤ at + 55 → word < 2 ^ 55
behind_few p column at word is few =
    let below : mask_l (map p (drop at column)) < 2 ^ 55 = mask_few p (drop at column) 55 (omega (arith, length-drop at column)) in
    omega arith

-- eight elements before all that are behind them
pub eight_before : (p : ℕ → Bool) (column : List ℕ) (from word eight : ℕ) → from + 8 ≤ length column →
    eight ≡ mask_l (map p (take 8 (drop from column))) → word ≡ mask_l (map p (drop (from + 8) column)) →
    word * 256 + eight ≡ mask_l (map p (drop from column))
eight_before p column from word eight room here behind =
    let k : ℕ = length column in
    let all : take k (drop (from + 8) column) ≡ drop (from + 8) column =
    take_all k (drop (from + 8) column) (omega (arith, length-drop (from + 8) column)) in
    let more : take (8 + k) (drop from column) ≡ drop from column =
    take_all (8 + k) (drop from column) (omega (arith, length-drop from column)) in
    eight_more p column from k word eight room here (behind ∙ ap (λ xs. mask_l (map p xs)) (sym all))
    ∙ ap (λ xs. mask_l (map p xs)) more
