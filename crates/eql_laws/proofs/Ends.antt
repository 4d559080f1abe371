-- The first and the last of the items below an item.
use Rattle.std.proofs.Common.{◌≡◌, ℕ, zero, suc, ◌<◌, Bool, true, false, cond, ◌||◌, ◌&&◌, ◌==◌, nat_eq, not, List, [], ◌∷◌, length, filter, refl, sym, ap, ◌∙◌, arith, eqb-true, eq-eqb}
use Rattle.std.specs.Prelude.{All}
use Rattle.std.specs.List.{list_any}
use Rattle.std.proofs.lemmas.Bool.{and_parts, and_from, or_parts, eqb-false}
use Rattle.std.proofs.lemmas.List.Elements.{All-head, All-tail}
use Rattle.level_items.specs.declared.items.Item.{Item}
use Rattle.level_items.specs.Levels.{Level, KeepsLevelRule, are_different}
use Rattle.bundle_state.specs.Bundle.{BundleParts}
use Rattle.bundle_state.specs.Valid.{KeepsBundleRules}
use Rattle.hier_closure.specs.Dominance.{dominates, ids_at}
use Rattle.eql_syntax.specs.declared.query.Place.TheVariants.{Start, End}
use Rattle.eql_model.specs.Positions.{below, is_first, is_last}
use Rattle.eql_laws.specs.Laws.{standing, count_below, OneStartOneEnd, OneIsBothEnds}

-- ---- a level's ids differ, and so do those that are kept

ids_differ : (levels : List Level) (n : ℕ) → All KeepsLevelRule levels → are_different (ids_at levels n) ≡ true
ids_differ [] n all = refl
ids_differ (level ∷ levels) zero all = (All-head KeepsLevelRule level levels all).distinct
ids_differ (level ∷ levels) (suc n) all = ids_differ levels n (All-tail KeepsLevelRule level levels all)

from_not : (b : Bool) → not b ≡ true → b ≡ false
from_not true is = absurd cc
from_not false is = refl

to_not : (b : Bool) → b ≡ false → not b ≡ true
to_not b is = ap not is

kept_misses : (b : Bool) (n x : ℕ) (kept : List ℕ) → nat_eq n x ≡ false → list_any (nat_eq n) kept ≡ false →
    list_any (nat_eq n) (cond b (x ∷ kept) kept) ≡ false
kept_misses true n x kept one rest = λ i. one i || rest i
kept_misses false n x kept one rest = rest

misses : (p : ℕ → Bool) (n : ℕ) (xs : List ℕ) → list_any (nat_eq n) xs ≡ false → list_any (nat_eq n) (filter p xs) ≡ false
misses p n [] none = refl
misses p n (x ∷ xs) none =
    let parts = or_parts (nat_eq n x) (list_any (nat_eq n) xs) none in
    kept_misses (p x) n x (filter p xs) parts.0 (misses p n xs parts.1)

kept_differ : (b : Bool) (x : ℕ) (kept : List ℕ) → list_any (nat_eq x) kept ≡ false → are_different kept ≡ true →
    are_different (cond b (x ∷ kept) kept) ≡ true
kept_differ true x kept none rest = and_from (not (list_any (nat_eq x) kept)) (are_different kept) (to_not (list_any (nat_eq x) kept) none) rest
kept_differ false x kept none rest = rest

-- the first of some ids is none of the others, which differ
apart : (x : ℕ) (xs : List ℕ) → are_different (x ∷ xs) ≡ true → (list_any (nat_eq x) xs ≡ false) × (are_different xs ≡ true)
apart x xs differ =
    let parts = and_parts (not (list_any (nat_eq x) xs)) (are_different xs) differ in
    (from_not (list_any (nat_eq x) xs) parts.0, parts.1)

still_differ : (p : ℕ → Bool) (xs : List ℕ) → are_different xs ≡ true → are_different (filter p xs) ≡ true
still_differ p [] differ = refl
still_differ p (x ∷ xs) differ =
    let parts = apart x xs differ in
    kept_differ (p x) x (filter p xs) (misses p x xs parts.0) (still_differ p xs parts.1)

-- ---- what is kept by two tests

kept_by : (b : Bool) (q : ℕ → Bool) (x : ℕ) (kept : List ℕ) →
    cond (b && q x) (x ∷ filter q kept) (filter q kept) ≡ filter q (cond b (x ∷ kept) kept)
kept_by true q x kept = refl
kept_by false q x kept = refl

kept_twice : (p q : ℕ → Bool) (xs : List ℕ) → filter (λ x. p x && q x) xs ≡ filter q (filter p xs)
kept_twice p q [] = refl
kept_twice p q (x ∷ xs) =
    (λ i. cond (p x && q x) (x ∷ kept_twice p q xs i) (kept_twice p q xs i)) ∙ kept_by (p x) q x (filter p xs)

none_kept : (p : ℕ → Bool) (xs : List ℕ) → list_any p xs ≡ false → filter p xs ≡ []
none_kept p [] none = refl
none_kept p (x ∷ xs) none =
    let parts = or_parts (p x) (list_any p xs) none in
    λ i. cond (parts.0 i) (x ∷ none_kept p xs parts.1 i) (none_kept p xs parts.1 i)

-- ---- the first and the last of ids that differ

equal_itself : (n : ℕ) → (n == n) ≡ true
equal_itself n = eq-eqb n n refl

firsts : (x : ℕ) (xs : List ℕ) → list_any (nat_eq x) xs ≡ false → filter (is_first (x ∷ xs)) (x ∷ xs) ≡ x ∷ []
firsts x xs none = λ i. cond (equal_itself x i) (x ∷ none_kept (λ y. x == y) xs none i) (none_kept (λ y. x == y) xs none i)

-- the last one of an id and these
abbrev final : ℕ → List ℕ → ℕ
final x [] = x
final x (y ∷ ys) = final y ys

other_by : (b : Bool) (x y : ℕ) → (y == x) ≡ b → nat_eq x y ≡ false → b ≡ false
other_by true x y same other = absurd (eqb-false x y other (sym (eqb-true y x same)))
other_by false x y same other = refl

other_way : (x y : ℕ) → nat_eq x y ≡ false → (y == x) ≡ false
other_way x y other = other_by (y == x) x y refl other

not_last : (x y : ℕ) (ys : List ℕ) → list_any (nat_eq x) (y ∷ ys) ≡ false → is_last (y ∷ ys) x ≡ false
not_last x y [] none = other_way x y (or_parts (nat_eq x y) false none).0
not_last x y (z ∷ zs) none = not_last x z zs (or_parts (nat_eq x y) (list_any (nat_eq x) (z ∷ zs)) none).1

lasts : (x : ℕ) (xs : List ℕ) → are_different (x ∷ xs) ≡ true → filter (is_last (x ∷ xs)) (x ∷ xs) ≡ final x xs ∷ []
lasts x [] differ = λ i. cond (equal_itself x i) (x ∷ []) []
lasts x (y ∷ ys) differ =
    let parts = apart x (y ∷ ys) differ in
    (λ i. cond (not_last x y ys parts.0 i) (x ∷ filter (is_last (y ∷ ys)) (y ∷ ys)) (filter (is_last (y ∷ ys)) (y ∷ ys)))
    ∙ lasts y ys parts.1

not_final : (x y : ℕ) (ys : List ℕ) → list_any (nat_eq x) (y ∷ ys) ≡ false → x ≡ final y ys → ⊥
not_final x y [] none same =
    eqb-false x y (or_parts (nat_eq x y) false none).0 same
not_final x y (z ∷ zs) none same = not_final x z zs (or_parts (nat_eq x y) (list_any (nat_eq x) (z ∷ zs)) none).1 same

-- ---- of ids that differ, by how many they are

record AreEnds (ids : List ℕ) : Type 0 where
  one_first : length (filter (is_first ids) ids) ≡ 1
  one_last : length (filter (is_last ids) ids) ≡ 1
  both_if_one : (length ids == 1) ≡ true → filter (is_first ids) ids ≡ filter (is_last ids) ids
  one_if_both : filter (is_first ids) ids ≡ filter (is_last ids) ids → (length ids == 1) ≡ true

heads : (x y : ℕ) → x ∷ [] ≡ y ∷ [] → x ≡ y
heads x y same = cc

ends_by : (x : ℕ) (xs : List ℕ) → are_different (x ∷ xs) ≡ true → AreEnds (x ∷ xs)
ends_by x xs differ =
    record {
      one_first = ap length first;
      one_last = ap length last;
      both_if_one = one_is_both xs first last;
      one_if_both = both_is_one xs differ first last;
    }
  where
    first : filter (is_first (x ∷ xs)) (x ∷ xs) ≡ x ∷ []
    first = firsts x xs (apart x xs differ).0

    last : filter (is_last (x ∷ xs)) (x ∷ xs) ≡ final x xs ∷ []
    last = lasts x xs differ

    one_is_both : (ys : List ℕ) → filter (is_first (x ∷ ys)) (x ∷ ys) ≡ x ∷ [] →
        filter (is_last (x ∷ ys)) (x ∷ ys) ≡ final x ys ∷ [] → (length (x ∷ ys) == 1) ≡ true →
        filter (is_first (x ∷ ys)) (x ∷ ys) ≡ filter (is_last (x ∷ ys)) (x ∷ ys)
    one_is_both [] f l one = f ∙ sym l
    one_is_both (y ∷ ys) f l one = let n = eqb-true (length (x ∷ y ∷ ys)) 1 one in absurd (omega arith)

    both_is_one : (ys : List ℕ) → are_different (x ∷ ys) ≡ true → filter (is_first (x ∷ ys)) (x ∷ ys) ≡ x ∷ [] →
        filter (is_last (x ∷ ys)) (x ∷ ys) ≡ final x ys ∷ [] →
        filter (is_first (x ∷ ys)) (x ∷ ys) ≡ filter (is_last (x ∷ ys)) (x ∷ ys) → (length (x ∷ ys) == 1) ≡ true
    both_is_one [] d f l same = refl
    both_is_one (y ∷ ys) d f l same =
        absurd (not_final x y ys (apart x (y ∷ ys) d).0 (heads x (final y ys) (sym f ∙ same ∙ l)))

ends : (ids : List ℕ) → are_different ids ≡ true → 0 < length ids → AreEnds ids
ends [] differ some = absurd (omega arith)
ends (x ∷ xs) differ some = ends_by x xs differ

-- ---- of the items below an item

-- the items of a lower level, by their ids, that an item dominates
abbrev lowers : BundleParts → ℕ → Item → List ℕ
lowers b lower item = below b.links (ids_at b.levels lower) item.id.0

module _ (b : BundleParts) (lower : ℕ) (item : Item) where
  starts : standing b lower Start item ≡ filter (is_first (lowers b lower item)) (lowers b lower item)
  starts = kept_twice (dominates b.links item.id.0) (is_first (lowers b lower item)) (ids_at b.levels lower)

  finishes : standing b lower End item ≡ filter (is_last (lowers b lower item)) (lowers b lower item)
  finishes = kept_twice (dominates b.links item.id.0) (is_last (lowers b lower item)) (ids_at b.levels lower)

  are_ends : KeepsBundleRules b → 0 < count_below b lower item → AreEnds (lowers b lower item)
  are_ends rules some =
      ends (lowers b lower item)
      (still_differ (dominates b.links item.id.0) (ids_at b.levels lower) (ids_differ b.levels lower rules.levels)) some

pub one_each : OneStartOneEnd
one_each b lower item rules some =
    let both = are_ends b lower item rules some in
    (ap length (starts b lower item) ∙ both.one_first, ap length (finishes b lower item) ∙ both.one_last)

pub one_both : OneIsBothEnds
one_both c b marked upper lower item rules some =
    let both = are_ends b lower item rules some in
    let first = starts b lower item in
    let last = finishes b lower item in
    (λ one. first ∙ both.both_if_one one ∙ sym last, λ same. both.one_if_both (sym first ∙ same ∙ last))
