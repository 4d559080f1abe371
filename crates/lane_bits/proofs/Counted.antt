-- How many bits are set, word by word and in all.
use Rattle.std.proofs.Common.{◌≡◌, ◌≢◌, ◌+◌, ◌*◌, ◌/◌, ◌%◌, ◌^◌, ◌<◌, ◌≤◌, ℕ, suc, Bool, true, false, cond, List, [], ◌∷◌, ◌++◌, length, map, take, drop, get_or, replicate, nat_eq, count_by, Fits, w64, drop-cons, false-eqb, refl, ap, sym, ◌∙◌, arith}
use Rattle.std.proofs.Math.Nat.{pow-le-pow_right}
use Rattle.std.proofs.Math.Seq.{take-add}
use Rattle.std.proofs.lemmas.Bool.{eqb-true}
use Rattle.std.proofs.lemmas.List.{take-append-drop, length-take, length-drop, get_or-take, get_or-drop, map-id}
use Rattle.std.proofs.lemmas.List.Folds.{sum_by-replicate}
use Rattle.std.proofs.lemmas.List.FromFn.{length-map-range_with_len}
use Rattle.std.proofs.lemmas.Nat.{ones-le}
use Rattle.std.proofs.lemmas.List.Sums.{count_by-le-length, sum_by-append}
use Rattle.std.proofs.lemmas.Nat.Bits.{same_from_bits_below, bit_at-lt}
use Rattle.std.proofs.lemmas.Simd.{mask_l-lt, bit_mask_l, ones-mask_l}
use Rattle.std.specs.Int.{bit_at}
use Rattle.std.specs.Int.RustNames.{count_ones}
use lib.Lanes.{mask_l, sum_l}
use Rattle.lane_bits.specs.Inner.Words.{bit_in, bits_of, Hold}

-- how many bits are set in the words
abbrev pub ones : List ℕ → ℕ
ones words = sum_l (map count_ones words)

ones_cat : (xs ys : List ℕ) → ones (xs ++ ys) ≡ ones xs + ones ys
ones_cat [] ys = omega arith
ones_cat (x ∷ xs) ys = let more : ones (xs ++ ys) ≡ ones xs + ones ys = ones_cat xs ys in omega arith

pub ones_split : (n : ℕ) (words : List ℕ) → ones words ≡ ones (take n words) + ones (drop n words)
ones_split n words = ap ones (sym (take-append-drop n words)) ∙ ones_cat (take n words) (drop n words)

pub ones_more : (n k : ℕ) (words : List ℕ) → ones (take (n + k) words) ≡ ones (take n words) + ones (take k (drop n words))
ones_more n k words = ap ones (take-add n k words) ∙ ones_cat (take n words) (take k (drop n words))

pub counted_cat : (xs ys : List Bool) → count_by (λ b. b) (xs ++ ys) ≡ count_by (λ b. b) xs + count_by (λ b. b) ys
counted_cat = sum_by-append (λ b. cond b 1 0)

pub counted_none : (n : ℕ) → count_by (λ b. b) (replicate n false) ≡ 0
counted_none n = sum_by-replicate (λ b. cond b 1 0) n false ∙ (omega arith)

bit_from_test : (n : ℕ) (b : Bool) → n < 2 → nat_eq n 1 ≡ b → n ≡ cond b 1 0
bit_from_test n true small is = eqb-true n 1 is
bit_from_test n false small is = let other : n ≢ 1 = false-eqb n 1 (sym is) in omega arith

-- the first word is the bits of the first 64 places
first_word : (w : ℕ) (ws : List ℕ) (bits : List Bool) → w < 2 ^ 64 → ((i : ℕ) → bit_in (w ∷ ws) i ≡ get_or bits i false) →
    w ≡ mask_l (take 64 bits)
first_word w ws bits fits each =
    let mask : List Bool = take 64 bits in
    let few : length mask ≤ 64 = rw (length-take 64 bits) (omega arith) in
    let power : 2 ^ length mask ≤ 2 ^ 64 = pow-le-pow_right {n = 2} (omega arith) {i = length mask} {j = 64} few in
    let here : mask_l mask < 2 ^ length mask = mask_l-lt mask in
    let below : mask_l mask < 2 ^ 64 = omega arith in
    same_from_bits_below 64 w (mask_l mask) fits below (λ j near.
    let word : j / 64 ≡ 0 = omega arith in
    let bit : j % 64 ≡ j = omega arith in
    let here : nat_eq (bit_at w j) 1 ≡ get_or bits j false =
    ap (λ r. nat_eq (bit_at w r) 1) (sym bit)
    ∙ ap (λ q. nat_eq (bit_at (get_or (w ∷ ws) q 0) (j % 64)) 1) (sym word) ∙ each j in
    bit_from_test (bit_at w j) (get_or bits j false) (bit_at-lt w j) here
    ∙ ap (λ b. cond b 1 0) (sym (get_or-take 64 bits j false near)) ∙ sym (bit_mask_l mask j))

-- as many bits are set in the words as in the row
pub ones_counted : (words : List ℕ) (bits : List Bool) → ((k : ℕ) → Fits w64 (get_or words k 0)) → length bits ≤ 64 * length words →
    ((i : ℕ) → bit_in words i ≡ get_or bits i false) → ones words ≡ count_by (λ b. b) bits
ones_counted [] [] fits full each = refl
ones_counted [] (b ∷ bits) fits full each = absurd (omega arith)
ones_counted (w ∷ ws) bits fits full each =
    let word : count_ones w ≡ count_by (λ b. b) (take 64 bits) =
    ap count_ones (first_word w ws bits (fits 0).fits each ∙ ap mask_l (sym (map-id (take 64 bits))))
    ∙ ones-mask_l (λ b. b) (take 64 bits) in
    let others : ones ws ≡ count_by (λ b. b) (drop 64 bits) =
    ones_counted ws (drop 64 bits) (λ k. fits (suc k)) (omega (arith, length-drop 64 bits)) (λ i.
    let next : (64 + i) / 64 ≡ suc (i / 64) = omega arith in
    let bit : (64 + i) % 64 ≡ i % 64 = omega arith in
    ap (λ r. nat_eq (bit_at (get_or ws (i / 64) 0) r) 1) (sym bit)
    ∙ ap (λ q. nat_eq (bit_at (get_or (w ∷ ws) q 0) ((64 + i) % 64)) 1) (sym next) ∙ each (64 + i)
    ∙ sym (get_or-drop 64 bits i false)) in
    let all : count_by (λ b. b) bits ≡ count_by (λ b. b) (take 64 bits) + count_by (λ b. b) (drop 64 bits) =
    ap (count_by (λ b. b)) (sym (take-append-drop 64 bits)) ∙ counted_cat (take 64 bits) (drop 64 bits) in
    omega arith

-- one word before the others
pub ones_before : (words : List ℕ) (at count one : ℕ) → at < length words → one ≡ count_ones (get_or words at 0) →
    count ≡ ones (drop (suc at) words) → count + one ≡ ones (drop at words)
ones_before words at count one within here behind =
    let parts : ones (drop at words) ≡ count_ones (get_or words at 0) + ones (drop (suc at) words) =
    ap ones (drop-cons words at 0 within) in
    omega arith

pub ones_few : (words : List ℕ) (k : ℕ) → ((k : ℕ) → Fits w64 (get_or words k 0)) → count_ones (get_or words k 0) ≤ 64
ones_few words k fits = ones-le 64 (get_or words k 0) (fits k).fits

-- how many bits are set in all words is told by the row
pub counted : (words : List ℕ) (len : ℕ) → ((k : ℕ) → Fits w64 (get_or words k 0)) → Hold words (bits_of len words) →
    (ones words ≡ count_by (λ b. b) (bits_of len words)) × (ones words ≤ len)
counted words len fits hold =
    let bits : List Bool = bits_of len words in
    let same : ones words ≡ count_by (λ b. b) bits = ones_counted words bits fits hold.enough.full hold.each in
    let few : count_by (λ b. b) bits ≤ length bits = count_by-le-length (λ b. b) bits in
    (same, omega (arith, length-map-range_with_len (bit_in words) 0 len))
