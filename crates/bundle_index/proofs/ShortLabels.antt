-- Labels that are found by their keys.
use Rattle.std.proofs.Common.{◌≡◌, ◌<◌, ◌≤◌, ◌+◌, ◌*◌, ◌%◌, ◌==◌, ◌≢◌, ◌⊎◌, inl, inr, ℕ, zero, suc, Bool, true, false, cond, not, nat_lt, List, [], ◌∷◌, ◌++◌, length, take, drop, get_or, slice_get, ◌-◌, Option, Some, None, refl, sym, ap, subst, ◌∙◌, arith, true≢false}
use Rattle.std.specs.Prelude.{slice_set}
use Rattle.std.proofs.lemmas.Bool.{cases_eq, cases_lt}
use Rattle.std.proofs.lemmas.Bool.Decides.{Decides-eqb, same_from_decides}
use Rattle.std.proofs.lemmas.List.{drop_more, get_or-set_other, get_or-set_same, length-drop, length-set, take_more, take_all}
use Rattle.std.proofs.lemmas.List.Quantifiers.{position-Some}
use Rattle.std.proofs.lemmas.Option.{slice_get_within, slice_get-get_or, get_or_from_slice_get, same_Some}
use Rattle.std.proofs.lemmas.Slice.Eq.{bytes_eq-Decides}
use Rattle.std.specs.List.{AllZip, position, position_or_len}
use Rattle.std.specs.Str.{bytes_eq}
use Rattle.bundle_index.specs.Inner.Keys.{AreBytes, AreKeysOf, AreMarksOf, IsKeyOf, number_of}

-- ---- the number of some bytes

-- above the number of each n bytes
abbrev pub above : ℕ → ℕ
above zero = 2
above (suc n) = 256 * above n

pub number_below : (bs : List ℕ) (n : ℕ) → AreBytes bs → length bs ≤ n → number_of bs < above n
number_below [] zero bytes few = omega arith
number_below [] (suc n) bytes few =
    let rest : number_of [] < above n = number_below [] n tt (omega arith) in
    omega (arith, rest)
number_below (b ∷ bs) zero bytes few = absurd (omega arith)
number_below (b ∷ bs) (suc n) bytes few =
    let rest : number_of bs < above n = number_below bs n bytes.1 (omega arith) in
    omega (arith, rest, bytes.0)

number_some : (bs : List ℕ) → 0 < number_of bs
number_some [] = omega arith
number_some (b ∷ bs) =
    let rest : 0 < number_of bs = number_some bs in
    omega (arith, rest)

-- bytes of the same number are the same
number_tells : (xs ys : List ℕ) → AreBytes xs → AreBytes ys → number_of xs ≡ number_of ys → xs ≡ ys
number_tells [] [] left right same = refl
number_tells [] (y ∷ ys) left right same =
    let some : 0 < number_of ys = number_some ys in
    absurd (omega (arith, some, same))
number_tells (x ∷ xs) [] left right same =
    let some : 0 < number_of xs = number_some xs in
    absurd (omega (arith, some, same))
number_tells (x ∷ xs) (y ∷ ys) left right same =
    let first : x ≡ y = omega (arith, same, left.0, right.0) in
    let rest : xs ≡ ys = number_tells xs ys left.1 right.1 (omega (arith, same, left.0, right.0)) in
    cc

-- ---- the key of a label among keys

key_tells : (label l : List ℕ) (key k : ℕ) → length label ≤ 7 → IsKeyOf label key → IsKeyOf l k → k ≡ key → label ≡ l
key_tells label l key k short mine other same = by (cases_lt 7 (length l))
  where
    by : (7 < length l) ⊎ (length l ≤ 7) → label ≡ l
    by (inl long) =
        let some : 0 < number_of label = number_some label in
        absurd (omega (arith, some, other.long long, (mine.short short).0, same))
    by (inr few) =
        number_tells label l (mine.short short).1 (other.short few).1
        (sym (mine.short short).0 ∙ sym same ∙ (other.short few).0)

same_key : (label l : List ℕ) (key k : ℕ) → length label ≤ 7 → IsKeyOf label key → IsKeyOf l k →
    (k == key) ≡ bytes_eq label l
same_key label l key k short mine other =
    same_from_decides {P = label ≡ l} (k == key) (bytes_eq label l) (
      (λ same. key_tells label l key k short mine other ((Decides-eqb k key).0 same)),
      (λ same. (Decides-eqb k key).1
          ((other.short (subst (λ (t : List ℕ). length t ≤ 7) same short)).0
          ∙ sym (ap number_of same) ∙ sym (mine.short short).0)),
    )
    (bytes_eq-Decides label l)

module _ (label : List ℕ) (key : ℕ) (short : length label ≤ 7) (mine : IsKeyOf label key) where
  first_same : (labels : List (List ℕ)) (keys : List ℕ) → AllZip IsKeyOf labels keys →
      position_or_len (λ k. k == key) keys ≡ position_or_len (bytes_eq label) labels
  first_same [] [] zip = refl
  first_same [] (k ∷ keys) zip = absurd zip
  first_same (l ∷ labels) [] zip = absurd zip
  first_same (l ∷ labels) (k ∷ keys) zip =
      let bit : (k == key) ≡ bytes_eq label l = same_key label l key k short mine zip.0 in
      let rest : position_or_len (λ k. k == key) keys ≡ position_or_len (bytes_eq label) labels =
      first_same labels keys zip.1 in
      ap (λ (b : Bool). cond (not b) (1 + position_or_len (λ k. k == key) keys) 0) bit
      ∙ ap (λ (n : ℕ). cond (not (bytes_eq label l)) (1 + n) 0) rest

  -- the place of a short label is that of its key
  pub place_same : (labels : List (List ℕ)) (keys : List ℕ) → AllZip IsKeyOf labels keys →
      position (λ k. k == key) keys ≡ position (bytes_eq label) labels
  place_same labels keys zip =
      ap (λ (n : ℕ). cond (nat_lt n (length keys)) (Some n) None) (first_same labels keys zip)
      ∙ ap (λ (n : ℕ). cond (nat_lt (position_or_len (bytes_eq label) labels) n)
      (Some (position_or_len (bytes_eq label) labels)) None) (sym (same_length labels keys zip))
    where
      same_length : (labels : List (List ℕ)) (keys : List ℕ) → AllZip IsKeyOf labels keys → length labels ≡ length keys
      same_length [] [] zip = refl
      same_length [] (k ∷ keys) zip = absurd zip
      same_length (l ∷ labels) [] zip = absurd zip
      same_length (l ∷ labels) (k ∷ keys) zip = ap (λ (n : ℕ). suc n) (same_length labels keys zip.1)

-- labels of the same key that is not 0 are the same
pub same_labels : (label l : List ℕ) (key : ℕ) → key ≢ 0 → IsKeyOf label key → IsKeyOf l key → label ≡ l
same_labels label l key some mine other = by (cases_lt 7 (length label))
  where
    by : (7 < length label) ⊎ (length label ≤ 7) → label ≡ l
    by (inl long) = absurd (some (mine.long long))
    by (inr few) = key_tells label l key key few mine other refl

-- the key at the place of a label is its key
pub key_at : (labels : List (List ℕ)) (keys : List ℕ) (i k : ℕ) (label : List ℕ) → AllZip IsKeyOf labels keys →
    slice_get labels i ≡ Some label → slice_get keys i ≡ Some k → IsKeyOf label k
key_at [] keys i k label zip here there = absurd (omega (arith, slice_get_within [] i label here))
key_at (l ∷ labels) [] i k label zip here there = absurd zip
key_at (l ∷ labels) (x ∷ keys) zero k label zip here there =
    subst (λ (n : ℕ). IsKeyOf label n) (same_Some x k there)
    (subst (λ (t : List ℕ). IsKeyOf t x) (same_Some l label here) zip.0)
key_at (l ∷ labels) (x ∷ keys) (suc i) k label zip here there = key_at labels keys i k label zip.1 here there

pub kept_key : (labels : List (List ℕ)) (keys : List ℕ) (i k : ℕ) (label : List ℕ) → AreKeysOf labels keys →
    slice_get labels i ≡ Some label → slice_get keys i ≡ Some k → IsKeyOf label k
kept_key labels keys i k label are here there =
    key_at labels keys i k label (are.each (omega (arith, slice_get_within keys i k there))) here there

-- ---- the marks of keys

-- the first keys have their marks
pub record AreMarkedSoFar (keys : List ℕ) (marks : List Bool) (n : ℕ) : Type 0 where
  pub count : length marks ≡ 63
  pub each : (i k : ℕ) → i < n → slice_get keys i ≡ Some k → get_or marks (k % 63) false ≡ true

pub none_marked : (keys : List ℕ) (marks : List Bool) → length marks ≡ 63 → AreMarkedSoFar keys marks 0
none_marked keys marks long = record { count = long; each = λ i k below at. absurd (omega arith) }

pub mark_more : (keys : List ℕ) (marks : List Bool) (n key : ℕ) → AreMarkedSoFar keys marks n → n < length keys →
    key ≡ get_or keys n key → AreMarkedSoFar keys (slice_set marks (key % 63) true) (n + 1)
mark_more keys marks n key so within is = record {
  count = length-set marks (key % 63) true ∙ so.count;
  each = λ i k below at. by i k below at (cases_eq (k % 63) (key % 63));
}
  where
    by : (i k : ℕ) → i < n + 1 → slice_get keys i ≡ Some k → (k % 63 ≡ key % 63) ⊎ (k % 63 ≡ key % 63 → ⊥) →
        get_or (slice_set marks (key % 63) true) (k % 63) false ≡ true
    by i k below at (inl same) =
        ap (λ (m : ℕ). get_or (slice_set marks (key % 63) true) m false) same
        ∙ get_or-set_same marks (key % 63) true false (omega (arith, so.count))
    by i k below at (inr other) =
        let apart : i ≡ n → ⊥ = λ (same : i ≡ n). other (ap (λ (m : ℕ). m % 63) (sym (get_or_from_slice_get keys i k key at)
        ∙ ap (λ (m : ℕ). get_or keys m key) same ∙ sym is)) in
        get_or-set_other marks (key % 63) (k % 63) true false other ∙ so.each i k (omega (arith, apart)) at

pub all_marked : (keys : List ℕ) (marks : List Bool) (n : ℕ) → AreMarkedSoFar keys marks n → length keys ≤ n → AreMarksOf keys marks
all_marked keys marks n so past = record {
  count = so.count;
  each = λ i k at. so.each i k (omega (arith, past, slice_get_within keys i k at)) at;
}

-- a key whose mark is not set is not among the keys
pub unmarked : (keys : List ℕ) (marks : List Bool) (key : ℕ) → AreMarksOf keys marks → slice_get marks (key % 63) ≡ Some false →
    position (λ k. k == key) keys ≡ None
unmarked keys marks key are off = by (position (λ k. k == key) keys) refl
  where
    by : (o : Option ℕ) → position (λ k. k == key) keys ≡ o → o ≡ None
    by None is = refl
    by (Some i) is =
        let found = position-Some (λ k. k == key) keys i 0 is in
        let same : get_or keys i 0 ≡ key = (Decides-eqb (get_or keys i 0) key).0 found.1 in
        let set : get_or marks (key % 63) false ≡ true =
        ap (λ (k : ℕ). get_or marks (k % 63) false) (sym same)
        ∙ are.each i (get_or keys i 0) (slice_get-get_or keys i 0 found.0) in
        absurd (true≢false (sym set ∙ get_or_from_slice_get marks (key % 63) false false off))

-- ---- the loops

-- one byte more, before those that are counted
pub byte_more : (bytes : List ℕ) (left number b : ℕ) → 0 < left → left ≤ length bytes → b ≡ get_or bytes (left - 1) 0 →
    b < 256 → number ≡ number_of (drop left bytes) → AreBytes (drop left bytes) →
    (number * 256 + b ≡ number_of (drop (left - 1) bytes)) × AreBytes (drop (left - 1) bytes)
byte_more bytes left number b some within is small number_is are =
    subst (λ (bs : List ℕ). (number * 256 + b ≡ number_of bs) × AreBytes bs) (sym here) (omega (arith, number_is), (small, are))
  where
    here : drop (left - 1) bytes ≡ b ∷ drop left bytes
    here = drop_more bytes (left - 1) 0 (omega arith)
        ∙ ap (λ (x : ℕ). x ∷ drop (left - 1 + 1) bytes) (sym is)
        ∙ ap (λ (i : ℕ). b ∷ drop i bytes) (omega arith)

-- one key more
pub key_more : (labels : List (List ℕ)) (keys : List ℕ) (place key : ℕ) (label : List ℕ) →
    AllZip IsKeyOf (take place labels) keys → slice_get labels place ≡ Some label → IsKeyOf label key →
    AllZip IsKeyOf (take (place + 1) labels) (keys ++ key ∷ [])
key_more labels keys place key label zip at is =
    subst (λ (ls : List (List ℕ)). AllZip IsKeyOf ls (keys ++ key ∷ [])) (sym one) (zip_more (take place labels) keys zip)
  where
    zip_more : (ls : List (List ℕ)) (ks : List ℕ) → AllZip IsKeyOf ls ks → AllZip IsKeyOf (ls ++ label ∷ []) (ks ++ key ∷ [])
    zip_more [] [] so = (is, tt)
    zip_more [] (k ∷ ks) so = absurd so
    zip_more (l ∷ ls) [] so = absurd so
    zip_more (l ∷ ls) (k ∷ ks) so = (so.0, zip_more ls ks so.1)

    one : take (place + 1) labels ≡ take place labels ++ label ∷ []
    one = take_more labels place label (slice_get_within labels place label at)
        ∙ ap (λ (l : List ℕ). take place labels ++ l ∷ []) (get_or_from_slice_get labels place label label at)

pub all_keyed : (labels : List (List ℕ)) (keys : List ℕ) (place : ℕ) → place ≡ length labels →
    AllZip IsKeyOf (take place labels) keys → AreKeysOf labels keys
all_keyed labels keys place is zip = record {
  each = λ some. subst (λ (ls : List (List ℕ)). AllZip IsKeyOf ls keys) (take_all place labels (omega (arith, is))) zip;
}

pub none_keyed : (labels : List (List ℕ)) → AreKeysOf labels []
none_keyed labels = record { each = λ some. absurd (omega arith) }

pub all_read : (bytes : List ℕ) (left number : ℕ) → left ≤ 0 → number ≡ number_of (drop left bytes) →
    AreBytes (drop left bytes) → (number ≡ number_of bytes) × AreBytes bytes
all_read bytes zero number end is are = (is, are)
all_read bytes (suc left) number end is are = absurd (omega (arith, end))

-- there is room for one byte more
pub number_fits : (bytes : List ℕ) (left number : ℕ) → 0 < left → length bytes ≤ 7 → number ≡ number_of (drop left bytes) →
    AreBytes (drop left bytes) → number < 562949953421312
number_fits bytes left number some few is are =
    let below : number_of (drop left bytes) < above 6 =
    number_below (drop left bytes) 6 are (omega (arith, length-drop left bytes)) in
    omega (arith, below, is)

pub short_key : (label : List ℕ) (key : ℕ) → length label ≤ 7 → key ≡ number_of label → AreBytes label → IsKeyOf label key
short_key label key few is are = record { short = λ short. (is, are); long = λ long. absurd (omega (arith, few, long)) }

pub long_key : (label : List ℕ) → 7 < length label → IsKeyOf label 0
long_key label far = record { short = λ short. absurd (omega (arith, far, short)); long = λ long. refl }
