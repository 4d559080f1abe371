-- What is joined by rows of bits are the tuples that a sequence and a dominance make.
use Rattle.std.proofs.Common.{◌≡◌, ℕ, zero, suc, ◌+◌, ◌-◌, ◌<◌, ◌≤◌, Bool, true, false, cond, ◌||◌, ◌&&◌, ◌==◌, inl, inr, List, [], ◌∷◌, ◌++◌, length, map, Ok, refl, sym, ap, ◌∙◌, arith}
use Rattle.std.specs.Prelude.{All, unwrap_or}
use Rattle.std.specs.List.{filter, flat_map, list_all, list_any, range_with_len}
use Rattle.std.specs.List.Sorted.{IsStrictlySortedBy}
use Rattle.std.specs.BTreeMap.{is_at}
use Rattle.std.specs.declared.cmp.Ordering.TheVariants.{Less}
use Rattle.std.proofs.lemmas.Bool.{cases_lt}
use Rattle.std.proofs.lemmas.Bool.Decides.{nat_tests}
use Rattle.std.proofs.lemmas.List.Concat.{flat_map-cons}
use Rattle.std.proofs.lemmas.List.Elements.{All-nil, All-cons, All-weaker, filter-append, recursion_from_All}
use Rattle.std.proofs.lemmas.List.FromFn.{length-map-range_with_len}
use Rattle.std.proofs.lemmas.Option.{slice_get_past}
use Rattle.emu_names.specs.declared.limits.TheConstants.{BUNDLE_ITEMS}
use Rattle.bundle_state.specs.Bundle.{BundleParts}
use Rattle.hier_closure.specs.Dominance.{ids_at, closure_of}
use Rattle.eql_tuples.specs.declared.tuple.Tuple.{Tuple}
use Rattle.eql_rows.specs.Inner.Flags.{flag_at}
use Rattle.eql_model.specs.Inner.Joins.{bit_at, bits_cover, is_under}
use Rattle.eql_tuples.specs.Inner.Stretches.{positions}
use Rattle.eql_tuples.specs.Tuples.{fits_in, follows, both, left_with, pairs_with, joined}
use Rattle.eql_model.specs.Meaning.{single}
use Rattle.eql_tuples.specs.Sets.{tuple_cmp, each_once, is_over}
use Rattle.eql_tuples.specs.Inner.Sets.{GivesSet}
use Rattle.eql_model.specs.Covers.{one_covers}
use Rattle.eql_model.proofs.Covers.{dominance_is}
use Rattle.eql_tuples.proofs.Members.{once_is, once_sorted, joined_has, same_sorted}
use Rattle.eql_rows.proofs.Walk.{none_among, range_split}
use Rattle.eql_match.specs.Inner.Found.{above_some, followed, is_above_some, is_below_some, items_of, neighbours, with_below, AreDominant}
use Rattle.eql_match.proofs.Bare.{less_by_first}
use Rattle.eql_columns.proofs.Standing.{flag_in}
use Rattle.eql_match.proofs.Order.{From}

-- ---- tuples of places, in order

kept_from : (f : ℕ → Tuple) → ((k : ℕ) → (f k).first ≡ k) → (b : Bool) (n a : ℕ) (ks : List ℕ) → n ≤ a → All (From n) (map f ks) →
    All (From n) (map f (cond b (a ∷ ks) ks))
kept_from f firsts true n a ks low rest = All-cons (From n) (f a) (map f ks) (omega (arith, firsts a)) rest
kept_from f firsts false n a ks low rest = rest

places_from : (f : ℕ → Tuple) → ((k : ℕ) → (f k).first ≡ k) → (q : ℕ → Bool) (low a n : ℕ) → low ≤ a →
    All (From low) (map f (filter q (range_with_len a n)))
places_from f firsts q low a zero order = All-nil (From low)
places_from f firsts q low a (suc n) order =
    kept_from f firsts (q a) low a (filter q (range_with_len (a + 1) n)) order (places_from f firsts q low (a + 1) n (omega arith))

abbrev Before : Tuple → Tuple → Type 0
Before a b = tuple_cmp a b ≡ Less

kept_sorted : (f : ℕ → Tuple) → ((k : ℕ) → (f k).first ≡ k) → (b : Bool) (a : ℕ) (ks : List ℕ) → All (From (a + 1)) (map f ks) →
    IsStrictlySortedBy tuple_cmp (map f ks) → IsStrictlySortedBy tuple_cmp (map f (cond b (a ∷ ks) ks))
unfolding IsStrictlySortedBy
kept_sorted f firsts true a ks all rest = (
  recursion_from_All (Before (f a)) (map f ks)
      (All-weaker (From (a + 1)) (Before (f a)) (λ t from. less_by_first (f a) t (omega (arith, from, firsts a))) (map f ks) all),
  rest,
)
kept_sorted f firsts false a ks all rest = rest

pub places_sorted : (f : ℕ → Tuple) → ((k : ℕ) → (f k).first ≡ k) → (q : ℕ → Bool) (a n : ℕ) →
    IsStrictlySortedBy tuple_cmp (map f (filter q (range_with_len a n)))
unfolding IsStrictlySortedBy
places_sorted f firsts q a zero = tt
places_sorted f firsts q a (suc n) =
    kept_sorted f firsts (q a) a (filter q (range_with_len (a + 1) n)) (places_from f firsts q (a + 1) (a + 1) n (omega arith))
    (places_sorted f firsts q (a + 1) n)

kept_few : (f : ℕ → Tuple) (b : Bool) (a n : ℕ) (ks : List ℕ) → length (map f ks) ≤ n → length (map f (cond b (a ∷ ks) ks)) ≤ suc n
kept_few f true a n ks few = omega arith
kept_few f false a n ks few = omega arith

pub places_few : (f : ℕ → Tuple) (q : ℕ → Bool) (a n : ℕ) → length (map f (filter q (range_with_len a n))) ≤ n
places_few f q a zero = omega arith
places_few f q a (suc n) = kept_few f (q a) a n (filter q (range_with_len (a + 1) n)) (places_few f q (a + 1) n)

pub not_over : (ts : List Tuple) → length ts ≤ BUNDLE_ITEMS → is_over ts ≡ false
not_over ts few = grind (arith, nat_tests)

-- ---- a sequence

kept_map : (f : ℕ → Tuple) (c : Bool) (x : ℕ) (us : List Tuple) (js : List ℕ) → us ≡ map f js →
    cond c (f x ∷ us) us ≡ map f (cond c (x ∷ js) js)
kept_map f true x us js rest = ap (λ zs. f x ∷ zs) rest
kept_map f false x us js rest = rest

filter_step : (p : Tuple → Bool) (f : ℕ → Tuple) (b : Bool) (x : ℕ) (ks js : List ℕ) → filter p (map f ks) ≡ map f js →
    filter p (map f (cond b (x ∷ ks) ks)) ≡ map f (cond (b && p (f x)) (x ∷ js) js)
filter_step p f true x ks js rest = kept_map f (p (f x)) x (filter p (map f ks)) js rest
filter_step p f false x ks js rest = rest

filter_map : (p : Tuple → Bool) (f : ℕ → Tuple) (q : ℕ → Bool) (xs : List ℕ) →
    filter p (map f (filter q xs)) ≡ map f (filter (λ k. q k && p (f k)) xs)
filter_map p f q [] = refl
filter_map p f q (x ∷ xs) = filter_step p f (q x) x (filter q xs) (filter (λ k. q k && p (f k)) xs) (filter_map p f q xs)

same_test : (k : ℕ) → (k == k) ≡ true
same_test k = grind (arith, nat_tests)

other_test : (k j : ℕ) → k < j → (k == j) ≡ false
other_test k j less = grind (arith, nat_tests)

later_test : (k j : ℕ) → j < k → (k == j) ≡ false
later_test k j less = grind (arith, nat_tests)

and_none : (a b : Bool) → b ≡ false → (a && b) ≡ false
and_none true b is = is
and_none false b is = refl

-- the place k is the only one that is k
only : (q : ℕ → Bool) (k n : ℕ) → (n ≤ k → q k ≡ false) → filter (λ j. q j && (k == j)) (range_with_len 0 n) ≡ cond (q k) (k ∷ []) []
only q k n past = elim (cases_lt k n) [
  | inl within ↦
      let e : n ≡ k + suc (n - (k + 1)) = omega arith in
      let here : 0 + k ≡ k = omega arith in
      ap (λ m. filter p (range_with_len 0 m)) e ∙ ap (filter p) (range_split 0 k (suc (n - (k + 1))))
      ∙ filter-append p (range_with_len 0 k) (range_with_len (0 + k) (suc (n - (k + 1))))
      ∙ (λ i. none_among p 0 k (λ j low high. and_none (q j) (k == j) (later_test k j (omega arith))) i
      ++ filter p (range_with_len (here i) (suc (n - (k + 1)))))
      ∙ ap (λ b. cond b (k ∷ filter p (range_with_len (k + 1) (n - (k + 1)))) (filter p (range_with_len (k + 1) (n - (k + 1))))) (at_k (q k))
      ∙ ap (λ ks. cond (q k) (k ∷ ks) ks)
      (none_among p (k + 1) (n - (k + 1)) (λ j low high. and_none (q j) (k == j) (other_test k j (omega arith))))
  | inr behind ↦
      none_among p 0 n (λ j low high. and_none (q j) (k == j) (later_test k j (omega arith)))
      ∙ ap (λ b. cond b (k ∷ []) []) (sym (past behind))
]
  where
    p : ℕ → Bool
    p = λ j. q j && (k == j)

    at_k : (b : Bool) → (b && (k == k)) ≡ b
    at_k true = same_test k
    at_k false = refl

-- what an item makes with the one behind it
next_only : (rights : List Bool) (k : ℕ) →
    pairs_with follows both (items_of rights) (single false k) ≡ cond (flag_at (k + 1) rights) (neighbours k ∷ []) []
next_only rights k =
    ap (map (both (single false k)))
    (filter_map (follows (single false k)) (single false) (λ j. flag_at j rights) (range_with_len 0 (length rights))
    ∙ ap (map (single false)) (only (λ j. flag_at j rights) (k + 1) (length rights) (λ past. unset_past rights (k + 1) past)))
    ∙ by_flag (flag_at (k + 1) rights)
  where
    unset_past : (row : List Bool) (j : ℕ) → length row ≤ j → flag_at j row ≡ false
    unset_past row j past = ap (λ o. unwrap_or o false) (slice_get_past row j past)

    by_flag : (b : Bool) → map (both (single false k)) (map (single false) (cond b ((k + 1) ∷ []) [])) ≡ cond b (neighbours k ∷ []) []
    by_flag true = refl
    by_flag false = refl

flat_step : (F : Tuple → List Tuple) (g : ℕ → Tuple) (b c : Bool) (x : ℕ) (ks js : List ℕ) → F (single false x) ≡ cond c (g x ∷ []) [] →
    flat_map F (map (single false) ks) ≡ map g js →
    flat_map F (map (single false) (cond b (x ∷ ks) ks)) ≡ map g (cond (b && c) (x ∷ js) js)
flat_step F g true true x ks js one rest =
    flat_map-cons F (single false x) (map (single false) ks) ∙ (λ i. one i ++ rest i)
flat_step F g true false x ks js one rest =
    flat_map-cons F (single false x) (map (single false) ks) ∙ (λ i. one i ++ rest i)
flat_step F g false c x ks js one rest = rest

flat_single : (F : Tuple → List Tuple) (g : ℕ → Tuple) (q h : ℕ → Bool) → ((k : ℕ) → F (single false k) ≡ cond (h k) (g k ∷ []) []) →
    (xs : List ℕ) → flat_map F (map (single false) (filter q xs)) ≡ map g (filter (λ k. q k && h k) xs)
flat_single F g q h one [] = refl
flat_single F g q h one (x ∷ xs) =
    flat_step F g (q x) (h x) x (filter q xs) (filter (λ k. q k && h k) xs) (one x) (flat_single F g q h one xs)

pub followed_is : (lefts rights : List Bool) → followed lefts rights ≡ joined follows both (items_of lefts) (items_of rights)
followed_is lefts rights =
    sym (once_is (followed lefts rights)
    (places_sorted neighbours (λ k. refl) (λ k. flag_at k lefts && flag_at (k + 1) rights) 0 (length lefts)))
    ∙ ap each_once (sym (flat_single (pairs_with follows both (items_of rights)) neighbours (λ k. flag_at k lefts)
    (λ k. flag_at (k + 1) rights) (next_only rights) (range_with_len 0 (length lefts))))

-- the set of a sequence of two rows
pub followed_gives : (lefts rights : List Bool) (made : List Tuple) → length lefts ≤ BUNDLE_ITEMS → made ≡ followed lefts rights →
    GivesSet (Ok made) (joined follows both (items_of lefts) (items_of rights))
followed_gives lefts rights made few is =
    let count = places_few neighbours (λ k. flag_at k lefts && flag_at (k + 1) rights) 0 (length lefts) in
    (is ∙ followed_is lefts rights, ap is_over (sym (followed_is lefts rights)) ∙ not_over (followed lefts rights) (omega arith))

-- ---- a dominance

kept_any : (p : Tuple → Bool) (f : ℕ → Tuple) (b : Bool) (x : ℕ) (ks : List ℕ) (r : Bool) → list_any p (map f ks) ≡ r →
    list_any p (map f (cond b (x ∷ ks) ks)) ≡ ((b && p (f x)) || r)
kept_any p f true x ks r rest = ap (λ c. p (f x) || c) rest
kept_any p f false x ks r rest = rest

any_places : (p : Tuple → Bool) (f : ℕ → Tuple) (q : ℕ → Bool) (xs : List ℕ) →
    list_any p (map f (filter q xs)) ≡ list_any (λ k. q k && p (f k)) xs
any_places p f q [] = refl
any_places p f q (x ∷ xs) = kept_any p f (q x) x (filter q xs) (list_any (λ k. q k && p (f k)) xs) (any_places p f q xs)

and_all : (a b s r : Bool) → ((a && (b && s)) || (r && s)) ≡ (((a && b) || r) && s)
and_all true true true r = refl
and_all true true false true = refl
and_all true true false false = refl
and_all true false s r = refl
and_all false b s r = refl

any_and : (a b : ℕ → Bool) (s : Bool) (xs : List ℕ) → list_any (λ j. a j && (b j && s)) xs ≡ (list_any (λ j. a j && b j) xs && s)
any_and a b s [] = refl
any_and a b s (x ∷ xs) =
    ap (λ c. (a x && (b x && s)) || c) (any_and a b s xs) ∙ and_all (a x) (b x) s (list_any (λ j. a j && b j) xs)

and_assoc : (a b c : Bool) → (a && (b && c)) ≡ ((a && b) && c)
and_assoc true b c = refl
and_assoc false b c = refl

any_within : (p q : ℕ → Bool) (a n m : ℕ) → a + n ≤ m → ((k : ℕ) → k < m → p k ≡ q k) →
    list_any p (range_with_len a n) ≡ list_any q (range_with_len a n)
any_within p q a zero m end same = refl
any_within p q a (suc n) m end same =
    (λ i. same a (omega arith) i || any_within p q (a + 1) n m (omega arith) same i)

-- tuples of places joined by a test are those of the left places for which some right one passes
pub joined_places : (goes : Tuple → Tuple → Bool) (made lefts rights : List Bool) → length made ≡ length lefts →
    ((k : ℕ) → k < length lefts → flag_at k made ≡ (flag_at k lefts
    && list_any (λ j. flag_at j rights && goes (single false k) (single false j)) (range_with_len 0 (length rights)))) →
    items_of made ≡ joined goes left_with (items_of lefts) (items_of rights)
joined_places goes made lefts rights long each =
    same_sorted (items_of made) (joined goes left_with (items_of lefts) (items_of rights))
    (places_sorted (single false) (λ k. refl) (λ k. flag_at k made) 0 (length made))
    (once_sorted (flat_map (pairs_with goes left_with (items_of rights)) (items_of lefts)))
    (λ t.
    any_places (is_at (tuple_cmp t)) (single false) (λ k. flag_at k made) (range_with_len 0 (length made))
    ∙ ap (λ n. list_any (λ k. flag_at k made && is_at (tuple_cmp t) (single false k)) (range_with_len 0 n)) long
    ∙ any_within (λ k. flag_at k made && is_at (tuple_cmp t) (single false k))
    (λ k. flag_at k lefts && inner t (single false k)) 0 (length lefts) (length lefts) (omega arith) (λ k within.
    ap (λ b. b && is_at (tuple_cmp t) (single false k)) (each k within)
    ∙ sym (and_assoc (flag_at k lefts) (list_any (λ j. flag_at j rights && goes (single false k) (single false j)) (range_with_len 0 (length rights)))
    (is_at (tuple_cmp t) (single false k)))
    ∙ ap (λ b. flag_at k lefts && b)
    (sym (any_places (λ r. goes (single false k) r && is_at (tuple_cmp t) (left_with (single false k) r)) (single false)
    (λ j. flag_at j rights) (range_with_len 0 (length rights))
    ∙ any_and (λ j. flag_at j rights) (λ j. goes (single false k) (single false j)) (is_at (tuple_cmp t) (single false k))
    (range_with_len 0 (length rights)))))
    ∙ sym (any_places (inner t) (single false) (λ k. flag_at k lefts) (range_with_len 0 (length lefts)))
    ∙ sym (joined_has goes left_with (items_of lefts) (items_of rights) t))
  where
    inner : Tuple → Tuple → Bool
    inner t l = list_any (λ r. goes l r && is_at (tuple_cmp t) (left_with l r)) (items_of rights)

-- rows cover a single item where the bit of the two is set
one_position : (k : ℕ) → positions (single false k) ≡ k ∷ []
one_position k = ap (range_with_len k) one
  where
    one : k + 1 - k ≡ 1
    one = omega arith

or_none : (b : Bool) → (b || false) ≡ b
or_none true = refl
or_none false = refl

and_full : (b : Bool) → (b && true) ≡ b
and_full true = refl
and_full false = refl

pub cover_single : (rows : List (List Bool)) (k j : ℕ) → bits_cover rows (single false k) (single false j) ≡ bit_at rows k j
cover_single rows k j =
    ap (list_all (is_under rows (single false k))) (one_position j) ∙ and_full (is_under rows (single false k) j)
    ∙ ap (list_any (λ i. bit_at rows i j)) (one_position k) ∙ or_none (bit_at rows k j)

pub any_split : (q f g : ℕ → Bool) (xs : List ℕ) →
    list_any (λ j. q j && (f j || g j)) xs ≡ (list_any (λ j. q j && f j) xs || list_any (λ j. q j && g j) xs)
any_split q f g [] = refl
any_split q f g (x ∷ xs) =
    ap (λ b. (q x && (f x || g x)) || b) (any_split q f g xs)
    ∙ four (q x) (f x) (g x) (list_any (λ j. q j && f j) xs) (list_any (λ j. q j && g j) xs)
  where
    four : (a b c r s : Bool) → ((a && (b || c)) || (r || s)) ≡ (((a && b) || r) || ((a && c) || s))
    four true true c r s = refl
    four true false true true s = refl
    four true false true false s = refl
    four true false false r s = refl
    four false b c r s = refl

-- both ways at one place
both_at : (l a u : Bool) → (((l && a) || u) && l) ≡ (l && (a || u))
both_at true true u = refl
both_at true false true = refl
both_at true false false = refl
both_at false a true = refl
both_at false a false = refl

-- the left items of one row that dominate, and those that are dominated
pub put_together : (down up : List (List Bool)) (lefts rights before made : List Bool) → before ≡ above_some down lefts rights →
    made ≡ with_below up lefts rights before → AreDominant down up lefts rights made
put_together down up lefts rights before made above is = record {
  count = ap length is ∙ length-map-range_with_len f 0 (length lefts);
  each = λ k within.
      flag_in f made (length lefts) k is within
      ∙ ap (λ b. (b || is_below_some up rights k) && flag_at k lefts)
      (flag_in (λ j. flag_at j lefts && is_above_some down rights j) before (length lefts) k above within)
      ∙ both_at (flag_at k lefts) (is_above_some down rights k) (is_below_some up rights k);
}
  where
    f : ℕ → Bool
    f = λ k. (flag_at k before || is_below_some up rights k) && flag_at k lefts

pub above_long : (rows : List (List Bool)) (lefts rights : List Bool) → length (above_some rows lefts rights) ≡ length lefts
above_long rows lefts rights = length-map-range_with_len (λ k. flag_at k lefts && is_above_some rows rights k) 0 (length lefts)

-- single items in range
single_fits : (n k : ℕ) → k < n → fits_in n (single false k) ≡ true
single_fits n k within = grind (arith, nat_tests)

kept_fit : (b : Bool) (n a : ℕ) (ks : List ℕ) → a < n → All (λ t. fits_in n t ≡ true) (map (single false) ks) →
    All (λ t. fits_in n t ≡ true) (map (single false) (cond b (a ∷ ks) ks))
kept_fit true n a ks within rest =
    All-cons (λ t. fits_in n t ≡ true) (single false a) (map (single false) ks) (single_fits n a within) rest
kept_fit false n a ks within rest = rest

places_fit : (q : ℕ → Bool) (n a m : ℕ) → a + m ≤ n → All (λ t. fits_in n t ≡ true) (map (single false) (filter q (range_with_len a m)))
places_fit q n a zero end = All-nil (λ t. fits_in n t ≡ true)
places_fit q n a (suc m) end =
    kept_fit (q a) n a (filter q (range_with_len (a + 1) m)) (omega arith) (places_fit q n (a + 1) m (omega arith))

pub items_fit : (row : List Bool) (n : ℕ) → length row ≡ n → All (λ t. fits_in n t ≡ true) (items_of row)
items_fit row n long = places_fit (λ k. flag_at k row) n 0 (length row) (omega arith)

-- what a dominance of two rows finds
pub dominating_is : (b : BundleParts) (left right : ℕ) (lefts rights made : List Bool) →
    length lefts ≡ length (ids_at b.levels left) → length rights ≡ length (ids_at b.levels right) →
    AreDominant (closure_of b right left) (closure_of b left right) lefts rights made →
    items_of made ≡ joined (one_covers b.links (ids_at b.levels left) (ids_at b.levels right)) left_with (items_of lefts) (items_of rights)
dominating_is b left right lefts rights made on_left on_right dominant =
    joined_places goes made lefts rights dominant.count (λ k within.
    dominant.each k within
    ∙ ap (λ c. flag_at k lefts && c)
    (sym (any_split (λ j. flag_at j rights) (λ j. bit_at down k j) (λ j. bit_at up j k) (range_with_len 0 (length rights)))
    ∙ (λ i. list_any (λ j. flag_at j rights && (sym (cover_single down k j) i || sym (cover_single up j k) i)) (range_with_len 0 (length rights)))))
    ∙ dominance_is b left right (items_of lefts) (items_of rights) (items_fit lefts (length (ids_at b.levels left)) on_left)
    (items_fit rights (length (ids_at b.levels right)) on_right)
  where
    down : List (List Bool)
    down = closure_of b right left

    up : List (List Bool)
    up = closure_of b left right

    goes : Tuple → Tuple → Bool
    goes = λ l r. bits_cover down l r || bits_cover up r l

-- a row of single items is never over
pub items_few : (row : List Bool) → length row ≤ BUNDLE_ITEMS → is_over (items_of row) ≡ false
items_few row few =
    let count = places_few (single false) (λ k. flag_at k row) 0 (length row) in
    not_over (items_of row) (omega arith)

-- the set of a dominance of two rows
pub dominating_gives : (b : BundleParts) (left right : ℕ) (lefts rights made : List Bool) →
    length lefts ≡ length (ids_at b.levels left) → length rights ≡ length (ids_at b.levels right) → length lefts ≤ BUNDLE_ITEMS →
    AreDominant (closure_of b right left) (closure_of b left right) lefts rights made →
    GivesSet (Ok (items_of made)) (joined (one_covers b.links (ids_at b.levels left) (ids_at b.levels right)) left_with (items_of lefts) (items_of rights))
dominating_gives b left right lefts rights made on_left on_right few dominant =
    let is = dominating_is b left right lefts rights made on_left on_right dominant in
    let long = dominant.count in
    (is, ap is_over (sym is) ∙ items_few made (omega arith))
