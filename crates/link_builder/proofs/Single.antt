-- Segments of one level do not overlap, so that an item stands within one of them at most.
use Rattle.std.proofs.Common.{◌≡◌, ℕ, ◌≤◌, Bool, true, false, not, cond, List, [], ◌∷◌, ◌++◌, map, nat_eq, nat_le, refl, arith}
use Rattle.std.specs.List.{filter, list_any, AllByRecursion, IsDistinct}
use Rattle.std.proofs.lemmas.Bool.{and_parts, or_parts, not-true, ltb-true}
use Rattle.std.proofs.lemmas.Bool.Decides.{nat_tests}
use Rattle.emu_names.specs.declared.kinds.ItemId.{ItemId}
use Rattle.emu_names.specs.declared.kinds.LevelKind.{LevelKind}
use Rattle.emu_names.specs.declared.kinds.LevelKind.TheVariants as kinds
use Rattle.level_items.specs.declared.annot.AnnotLink.{AnnotLink}
use Rattle.level_items.specs.declared.items.Item.{Item}
use Rattle.level_items.specs.declared.times.Time.{Time}
use Rattle.level_items.specs.Times.{first_sample, last_sample, is_before}
use Rattle.level_items.specs.Levels.{are_apart, are_different, are_in_order, ids_of, is_before_first}
use Rattle.level_items.proofs.Apart.{before_trans, first-le-last}
use Rattle.link_builder.specs.Timed.{is_within, pair_with, pairs_with, timed_pairs}
use Rattle.link_builder.specs.Laws.{ItemsHaveOneSegment}

-- two pairs of one lower item
abbrev pub have_one_lower : AnnotLink → AnnotLink → Bool
have_one_lower one other = nat_eq one.to.0 other.to.0

-- ---- lists

module _ {K : Type 0} where
  all_joined : (P : K → Type 0) (xs ys : List K) → AllByRecursion P xs → AllByRecursion P ys → AllByRecursion P (xs ++ ys)
  all_joined P [] ys one other = other
  all_joined P (x ∷ xs) ys one other = (one.0, all_joined P xs ys one.1 other)

  -- no element of the one list is that of the other
  abbrev are_strange : (K → K → Bool) → List K → List K → Type 0
  are_strange e xs ys = AllByRecursion (λ x. AllByRecursion (λ y. e x y ≡ false) ys) xs

  strange_none : (e : K → K → Bool) (xs : List K) → are_strange e xs []
  strange_none e [] = tt
  strange_none e (x ∷ xs) = (tt, strange_none e xs)

  strange_joined : (e : K → K → Bool) (xs ys zs : List K) → are_strange e xs ys → are_strange e xs zs → are_strange e xs (ys ++ zs)
  strange_joined e [] ys zs one other = tt
  strange_joined e (x ∷ xs) ys zs one other = (all_joined _ ys zs one.0 other.0, strange_joined e xs ys zs one.1 other.1)

  strange_cons : (e : K → K → Bool) (xs : List K) (y : K) (ys : List K) → AllByRecursion (λ x. e x y ≡ false) xs → are_strange e xs ys → are_strange e xs (y ∷ ys)
  strange_cons e [] y ys one other = tt
  strange_cons e (x ∷ xs) y ys one other = ((one.0, other.0), strange_cons e xs y ys one.1 other.1)

  distinct_joined : (e : K → K → Bool) (xs ys : List K) → IsDistinct e xs → IsDistinct e ys → are_strange e xs ys → IsDistinct e (xs ++ ys)
  unfolding IsDistinct
  distinct_joined e [] ys one other apart = other
  distinct_joined e (x ∷ xs) ys one other apart = (all_joined _ xs ys one.0 apart.0, distinct_joined e xs ys one.1 other apart.1)

-- ---- the pairs of one segment

flip : (a b : ℕ) → nat_eq a b ≡ false → nat_eq b a ≡ false
flip a b h = grind (arith, nat_tests)

-- the pairs with those of these items that pass a test
abbrev pairs_where : ItemId → (Item → Bool) → List Item → List AnnotLink
pairs_where upper test lower = map (pair_with upper) (filter test lower)

where_step : (upper : ItemId) (test : Item → Bool) (i : Item) (lower : List Item) (t : Bool) →
    map (pair_with upper) (cond t (i ∷ filter test lower) (filter test lower)) ≡ cond t (pair_with upper i ∷ pairs_where upper test lower) (pairs_where upper test lower)
where_step upper test i lower true = refl
where_step upper test i lower false = refl

-- an item of another id is in no pair
behind : (n : ℕ) (upper : ItemId) (test : Item → Bool) (lower : List Item) → list_any (nat_eq n) (ids_of lower) ≡ false →
    AllByRecursion (λ pair. nat_eq n pair.to.0 ≡ false) (pairs_where upper test lower)
behind n upper test [] fresh = tt
behind n upper test (i ∷ lower) fresh =
    let parts = or_parts (nat_eq n i.id.0) (list_any (nat_eq n) (ids_of lower)) fresh in
    by (test i) parts.0 (behind n upper test lower parts.1)
  where
    by : (t : Bool) → nat_eq n i.id.0 ≡ false → AllByRecursion (λ pair. nat_eq n pair.to.0 ≡ false) (pairs_where upper test lower) →
        AllByRecursion (λ pair. nat_eq n pair.to.0 ≡ false) (map (pair_with upper) (cond t (i ∷ filter test lower) (filter test lower)))
    by true one rest = (one, rest)
    by false one rest = rest

before : (n : ℕ) (upper : ItemId) (test : Item → Bool) (lower : List Item) → list_any (nat_eq n) (ids_of lower) ≡ false →
    AllByRecursion (λ pair. nat_eq pair.to.0 n ≡ false) (pairs_where upper test lower)
before n upper test [] fresh = tt
before n upper test (i ∷ lower) fresh =
    let parts = or_parts (nat_eq n i.id.0) (list_any (nat_eq n) (ids_of lower)) fresh in
    by (test i) (flip n i.id.0 parts.0) (before n upper test lower parts.1)
  where
    by : (t : Bool) → nat_eq i.id.0 n ≡ false → AllByRecursion (λ pair. nat_eq pair.to.0 n ≡ false) (pairs_where upper test lower) →
        AllByRecursion (λ pair. nat_eq pair.to.0 n ≡ false) (map (pair_with upper) (cond t (i ∷ filter test lower) (filter test lower)))
    by true one rest = (one, rest)
    by false one rest = rest

own : (upper : ItemId) (test : Item → Bool) (lower : List Item) → are_different (ids_of lower) ≡ true → IsDistinct have_one_lower (pairs_where upper test lower)
unfolding IsDistinct
own upper test [] apart = tt
own upper test (i ∷ lower) apart =
    let parts = and_parts (not (list_any (nat_eq i.id.0) (ids_of lower))) (are_different (ids_of lower)) apart in
    by (test i) (behind i.id.0 upper test lower (not-true _ parts.0)) (own upper test lower parts.1)
  where
    by : (t : Bool) → AllByRecursion (λ pair. nat_eq i.id.0 pair.to.0 ≡ false) (pairs_where upper test lower) → IsDistinct have_one_lower (pairs_where upper test lower) →
        IsDistinct have_one_lower (map (pair_with upper) (cond t (i ∷ filter test lower) (filter test lower)))
    by true one rest = (one, rest)
    by false one rest = rest

-- ---- the pairs of two segments

-- what stands within the one of two times does not stand within a later one
not_both : (one other inner : Time) → is_before one other ≡ true → is_within one inner ≡ true → is_within other inner ≡ true → ⊥
not_both one other inner order here there =
    let apart = ltb-true (last_sample one) (first_sample other) order in
    let low = first-le-last inner in
    let first = and_parts (nat_le (first_sample one) (first_sample inner)) (nat_le (last_sample inner) (last_sample one)) here in
    let second = and_parts (nat_le (first_sample other) (first_sample inner)) (nat_le (last_sample inner) (last_sample other)) there in
    let end : last_sample inner ≤ last_sample one = grind (arith, nat_tests, first) in
    let start : first_sample other ≤ first_sample inner = grind (arith, nat_tests, second) in
    omega (arith, apart, low, end, start)

two : (x y : Item) (lower : List Item) → is_before x.time y.time ≡ true → are_different (ids_of lower) ≡ true →
    are_strange have_one_lower (pairs_with lower x) (pairs_with lower y)
two x y [] order apart = tt
two x y (i ∷ lower) order apart =
    let parts = and_parts (not (list_any (nat_eq i.id.0) (ids_of lower))) (are_different (ids_of lower)) apart in
    by (is_within x.time i.time) (is_within y.time i.time) refl refl (not-true _ parts.0) (two x y lower order parts.1)
  where
    by : (s t : Bool) → is_within x.time i.time ≡ s → is_within y.time i.time ≡ t → list_any (nat_eq i.id.0) (ids_of lower) ≡ false →
        are_strange have_one_lower (pairs_with lower x) (pairs_with lower y) →
        are_strange have_one_lower (map (pair_with x.id) (cond s (i ∷ filter (λ j. is_within x.time j.time) lower) (filter (λ j. is_within x.time j.time) lower)))
        (map (pair_with y.id) (cond t (i ∷ filter (λ j. is_within y.time j.time) lower) (filter (λ j. is_within y.time j.time) lower)))
    by true true here there fresh rest = absurd (not_both x.time y.time i.time order here there)
    by true false here there fresh rest = (behind i.id.0 y.id (λ j. is_within y.time j.time) lower fresh, rest)
    by false true here there fresh rest = strange_cons have_one_lower _ (pair_with y.id i) _ (before i.id.0 x.id (λ j. is_within x.time j.time) lower fresh) rest
    by false false here there fresh rest = rest

-- ---- all segments

pub all_later : (x : Item) (upper : List Item) → are_apart (x ∷ upper) ≡ true → AllByRecursion (λ y. is_before x.time y.time ≡ true) upper
all_later x [] apart = tt
all_later x (y ∷ upper) apart =
    let parts = and_parts (is_before x.time y.time) (are_apart (y ∷ upper)) apart in
    (parts.0, further upper (all_later y upper parts.1))
  where
    further : (ys : List Item) → AllByRecursion (λ z. is_before y.time z.time ≡ true) ys → AllByRecursion (λ z. is_before x.time z.time ≡ true) ys
    further [] later = tt
    further (z ∷ ys) later = (before_trans x.time y.time z.time (and_parts (is_before x.time y.time) (are_apart (y ∷ upper)) apart).0 later.0, further ys later.1)

one_and_all : (x : Item) (upper lower : List Item) → AllByRecursion (λ y. is_before x.time y.time ≡ true) upper → are_different (ids_of lower) ≡ true →
    are_strange have_one_lower (pairs_with lower x) (timed_pairs upper lower)
one_and_all x [] lower later apart = strange_none have_one_lower (pairs_with lower x)
one_and_all x (y ∷ upper) lower later apart =
    strange_joined have_one_lower (pairs_with lower x) (pairs_with lower y) (timed_pairs upper lower) (two x y lower later.0 apart) (one_and_all x upper lower later.1 apart)

pub one_segment : (upper lower : List Item) → are_apart upper ≡ true → are_different (ids_of lower) ≡ true → IsDistinct have_one_lower (timed_pairs upper lower)
unfolding IsDistinct
one_segment [] lower order apart = tt
one_segment (x ∷ upper) lower order apart =
    let parts = and_parts (is_before_first x.time upper) (are_apart upper) order in
    distinct_joined have_one_lower (pairs_with lower x) (timed_pairs upper lower) (own x.id (λ j. is_within x.time j.time) lower apart) (one_segment upper lower parts.1 apart)
    (one_and_all x upper lower (all_later x upper order) apart)

-- the segments of a level stand in the order of their times
pub in_order_apart : (kind : LevelKind) (items : List Item) → kind ≡ kinds.Segment → are_in_order kind items ≡ true → are_apart items ≡ true
in_order_apart kinds.Segment items is h = h
in_order_apart kinds.Item items is h = absurd cc
in_order_apart kinds.Event items is h = absurd cc

pub items_in_one : ItemsHaveOneSegment
items_in_one upper lower rule other is = one_segment upper.items lower.items (in_order_apart upper.kind upper.items is rule.ordered) other.distinct
