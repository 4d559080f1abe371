-- Where the bundle of a key stands in a list, found by halving.
use Rattle.std.proofs.Common.{◌≡◌, ℕ, zero, suc, ◌<◌, ◌≤◌, Bool, true, false, cond, not, nat_lt, ltb-true, ltb-false, List, [], ◌∷◌, ◌++◌, length, take, drop, slice_get, Option, Some, None, refl, sym, ◌∙◌, ap, subst, arith, length-append, length-take, length-drop}
use Rattle.std.specs.List.{AllWithin}
use Rattle.std.specs.List.Sorted.{IsPartitionedBy}
use Rattle.std.proofs.lemmas.Bool.{true≢false}
use Rattle.emu_names.specs.declared.names.BundleKey.{BundleKey}
use Rattle.bundle_index.specs.Index.{IndexParts}
use Rattle.edit_rules.specs.Database.{same_key, is_before}
use Rattle.edit_rules.proofs.KeyPlaces.{before_or, before_trans, key_same}
use Rattle.version_tree.specs.Inner.Version.{has_key, indexed_with, others, placed, put_indexed}
use Rattle.version_tree.specs.Inner.Pages.{Each, AreBefore, AreBehind, AreRising}
use Rattle.version_tree.specs.Inner.Places.{IsGap, IsAtMostOneMore, is_of_key, has_key_at}
use Rattle.version_tree.proofs.Elements.{each_map, each_low, each_high, Pairs, split_by, split_at, first_behind, whole, is_there}
use Rattle.version_tree.proofs.Orders.{AreParts, behind_of, not_same, rising_parts, others_between, put_between, found_between}

rising_pairs : (xs : List IndexParts) → AreRising xs → Pairs (λ (x y : IndexParts). is_before x.bundle.key y.bundle.key ≡ true) xs
rising_pairs [] up = tt
rising_pairs (x ∷ xs) up = (up.0, rising_pairs xs up.1)

-- a list whose keys rise is split by whether they stand before a key
pub halved : (key : BundleKey) (xs : List IndexParts) → AreRising xs → IsPartitionedBy (λ x. is_before x.bundle.key key) xs
halved key xs up =
    split_by (λ (x y : IndexParts). is_before x.bundle.key y.bundle.key ≡ true) (λ (x : IndexParts). is_before x.bundle.key key)
    (λ x y is later. before_trans x.bundle.key y.bundle.key key is later) xs (rising_pairs xs up)

-- the bundle of the key is there

own_put : (key : BundleKey) (x new : IndexParts) → has_key key x ≡ true → new.bundle.key ≡ key → put_indexed new (x ∷ []) ≡ new ∷ []
own_put key x new is own =
    ap (λ (b : Bool). placed new (cond (not b) (x ∷ []) [])) (ap (λ (k : BundleKey). has_key k x) own ∙ is)

pub gap_taken : (key : BundleKey) (xs : List IndexParts) (n : ℕ) (x : IndexParts) → AreRising xs → AreBefore key (take n xs) →
    slice_get xs n ≡ Some x → has_key key x ≡ true → IsGap key xs n (suc n)
gap_taken key xs n x up before at is =
    let split : xs ≡ take n xs ++ ((x ∷ []) ++ drop (suc n) xs) = split_at xs n x at in
    let parts : AreParts (take n xs) (x ∷ drop (suc n) xs) = rising_parts (take n xs) (x ∷ drop (suc n) xs) (subst AreRising split up) in
    let behind : AreBehind key (drop (suc n) xs) = subst (λ (k : BundleKey). AreBehind k (drop (suc n) xs)) (key_same x.bundle.key key is) parts.second.0 in
    let lt : n < length xs = is_there xs n x at in
    record {
      ordered = omega arith;
      narrow = omega arith;
      within = omega (arith, lt);
      there = λ low. ap (indexed_with key) split ∙ found_between key (take n xs) (x ∷ []) (drop (suc n) xs) before behind
          ∙ ap (λ (b : Bool). cond b (Some x) None) is ∙ sym at;
      absent = λ low. absurd (omega (arith, low));
      put = λ new own. ap (put_indexed new) split
          ∙ put_between new (take n xs) (x ∷ []) (drop (suc n) xs)
          (subst (λ (k : BundleKey). AreBefore k (take n xs)) (sym own) before)
          (subst (λ (k : BundleKey). AreBehind k (drop (suc n) xs)) (sym own) behind)
          ∙ ap (λ (zs : List IndexParts). take n xs ++ (zs ++ drop (suc n) xs)) (own_put key x new is own);
      taken = ap (others key) split ∙ others_between key (take n xs) (x ∷ []) (drop (suc n) xs) before behind
          ∙ ap (λ (b : Bool). take n xs ++ (cond (not b) (x ∷ []) [] ++ drop (suc n) xs)) is;
    }

-- no bundle has the key

all_behind : (key : BundleKey) (ys : List IndexParts) → AreRising ys → is_of_key key (slice_get ys 0) ≡ false →
    Each (λ y. is_before y.bundle.key key ≡ false) ys → AreBehind key ys
all_behind key [] up is later = tt
all_behind key (y ∷ ys) up is later =
    let own : is_before key y.bundle.key ≡ true = before_or y.bundle.key key later.0 (not_same y.bundle.key key (same_key key y.bundle.key) refl is) in
    (own, behind_of key y ys own up.0)

pub gap_free : (key : BundleKey) (xs : List IndexParts) (n : ℕ) → AreRising xs → n ≤ length xs → AreBefore key (take n xs) →
    Each (λ y. is_before y.bundle.key key ≡ false) (drop n xs) → has_key_at key xs n ≡ false → IsGap key xs n n
gap_free key xs n up le before later is =
    let split : xs ≡ take n xs ++ ([] ++ drop n xs) = whole n xs in
    let parts : AreParts (take n xs) (drop n xs) = rising_parts (take n xs) (drop n xs) (subst AreRising split up) in
    let behind : AreBehind key (drop n xs) =
    all_behind key (drop n xs) parts.second (ap (is_of_key key) (sym (first_behind xs n)) ∙ is) later in
    record {
      ordered = omega arith;
      narrow = omega arith;
      within = le;
      there = λ low. absurd (omega (arith, low));
      absent = λ low. ap (indexed_with key) split ∙ found_between key (take n xs) [] (drop n xs) before behind;
      put = λ new own. ap (put_indexed new) split
          ∙ put_between new (take n xs) [] (drop n xs)
          (subst (λ (k : BundleKey). AreBefore k (take n xs)) (sym own) before)
          (subst (λ (k : BundleKey). AreBehind k (drop n xs)) (sym own) behind);
      taken = ap (others key) split ∙ others_between key (take n xs) [] (drop n xs) before behind;
    }

-- How many bundles there are then.

pub put_size : (key : BundleKey) (xs : List IndexParts) (from to : ℕ) (new : IndexParts) → IsGap key xs from to →
    IsAtMostOneMore xs (take from xs ++ new ∷ drop to xs)
put_size key xs from to new gap =
    let long = length-append (take from xs) (new ∷ drop to xs) in
    let front = length-take from xs in
    let back = length-drop to xs in
    let ordered = gap.ordered in
    let narrow = gap.narrow in
    let within = gap.within in
    record { low = omega arith; high = omega arith }

pub taken_size : (key : BundleKey) (xs : List IndexParts) (from to : ℕ) → IsGap key xs from to → (indexed_with key xs ≡ None → ⊥) →
    suc (length (take from xs ++ drop to xs)) ≡ length xs
taken_size key xs from to gap there =
    let long = length-append (take from xs) (drop to xs) in
    let front = length-take from xs in
    let back = length-drop to xs in
    let ordered = gap.ordered in
    let narrow = gap.narrow in
    let within = gap.within in
    let wide : from < to = by (nat_lt from to) refl in
    omega arith
  where
    by : (b : Bool) → nat_lt from to ≡ b → from < to
    by true is = ltb-true from to is
    by false is = absurd (there (gap.absent (ltb-false from to is)))

-- From the place that halving gives.

pub gap_there : (key : BundleKey) (xs : List IndexParts) (n to : ℕ) → to ≡ suc n → AreRising xs →
    AllWithin (λ x. is_before x.bundle.key key ≡ true) xs 0 n → has_key_at key xs n ≡ true → IsGap key xs n to
gap_there key xs n to next up low is = subst (IsGap key xs n) (sym next) (by (slice_get xs n) refl)
  where
    by : (o : Option IndexParts) → slice_get xs n ≡ o → IsGap key xs n (suc n)
    by None at = absurd (true≢false (sym is ∙ ap (is_of_key key) at))
    by (Some x) at =
        gap_taken key xs n x up (each_low (λ (y : IndexParts). is_before y.bundle.key key ≡ true) xs n low) at (sym (ap (is_of_key key) at) ∙ is)

pub gap_none : (key : BundleKey) (xs : List IndexParts) (n : ℕ) → AreRising xs → n ≤ length xs →
    AllWithin (λ x. is_before x.bundle.key key ≡ true) xs 0 n → AllWithin (λ x. is_before x.bundle.key key ≡ false) xs n (length xs) →
    has_key_at key xs n ≡ false → IsGap key xs n n
gap_none key xs n up le low high is =
    gap_free key xs n up le (each_low (λ (y : IndexParts). is_before y.bundle.key key ≡ true) xs n low)
    (each_high (λ (y : IndexParts). is_before y.bundle.key key ≡ false) xs n high) is
