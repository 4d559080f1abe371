-- Tuples that a tuple can be joined with begin within its reach, and stand side by side.
use Rattle.std.proofs.Common.{◌≡◌, ◌⊎◌, inl, inr, ℕ, zero, suc, ◌+◌, ◌-◌, ◌<◌, ◌≤◌, Bool, true, false, cond, not, ◌||◌, List, [], ◌∷◌, ◌++◌, length, map, take, drop, get_or, nat_lt, nat_le, Option, None, Some, refl, sym, ap, subst, ◌∙◌, arith}
use Rattle.std.specs.Prelude.{All, min, max, unwrap_or}
use Rattle.std.specs.List.{filter, list_all, list_any, range_with_len, slice_get}
use Rattle.std.specs.List.Sorted.{IsPartitionPoint}
use Rattle.std.proofs.lemmas.Bool.{and_parts, eqb-true, leb-true, ltb-true}
use Rattle.std.proofs.lemmas.Bool.Decides.{nat_tests}
use Rattle.std.proofs.lemmas.List.{map-id}
use Rattle.std.proofs.lemmas.List.FromFn.{map-range_with_len_more}
use Rattle.std.proofs.lemmas.List.Elements.{All-head, All-tail, All-filter, All-weaker}
use Rattle.std.proofs.lemmas.List.Folds.{list_any-append}
use Rattle.std.proofs.lemmas.Option.{slice_get_within, get_or_from_slice_get, unwrap_or-slice_get}
use Rattle.lane_bits.specs.Inner.Row.{NoneWhere, IsFirst, IsLast}
use Rattle.eql_tuples.specs.declared.tuple.Tuple.{Tuple}
use Rattle.eql_rows.specs.Inner.Flags.{flag_at}
use Rattle.eql_tuples.specs.Tuples.{fits_in, pairs_with}
use Rattle.eql_model.specs.Inner.Joins.{bit_at, is_under, bits_cover}
use Rattle.eql_match.specs.declared.ways.Way.{Way}
use Rattle.eql_match.specs.declared.ways.Way.TheVariants.{Behind, Covers, CoversLeft}
use Rattle.eql_match.specs.Inner.Reach.{IsWithin, Widens, Reaches, ReachesTo}
use Rattle.eql_match.specs.Inner.Ways.{joins, makes, IsOther, ReachesAll}

-- ---- halves of a list in which a test holds first of all and then of none

pub front_is : (p : Tuple → Bool) (d : Tuple) (xs : List Tuple) (i : ℕ) → ((k : ℕ) → k < i → p (get_or xs k d) ≡ true) →
    ((k : ℕ) → i ≤ k → k < length xs → p (get_or xs k d) ≡ false) → i ≤ length xs → take i xs ≡ filter p xs
front_is p d [] zero before behind h = refl
front_is p d [] (suc i) before behind h = absurd (omega arith)
front_is p d (x ∷ xs) zero before behind h =
    front_is p d xs zero (λ k less. absurd (omega arith)) (λ k from less. behind (suc k) (omega arith) (omega arith)) (omega arith)
    ∙ sym (ap (λ b. cond b (x ∷ filter p xs) (filter p xs)) (behind 0 (omega arith) (omega arith)))
front_is p d (x ∷ xs) (suc i) before behind h =
    ap (λ ys. x ∷ ys)
    (front_is p d xs i (λ k less. before (suc k) (omega arith)) (λ k from less. behind (suc k) (omega arith) (omega arith)) (omega arith))
    ∙ sym (ap (λ b. cond b (x ∷ filter p xs) (filter p xs)) (before 0 (omega arith)))

pub back_is : (p : Tuple → Bool) (d : Tuple) (xs : List Tuple) (i : ℕ) → ((k : ℕ) → k < i → p (get_or xs k d) ≡ true) →
    ((k : ℕ) → i ≤ k → k < length xs → p (get_or xs k d) ≡ false) → i ≤ length xs → drop i xs ≡ filter (λ x. not (p x)) xs
back_is p d [] zero before behind h = refl
back_is p d [] (suc i) before behind h = absurd (omega arith)
back_is p d (x ∷ xs) zero before behind h =
    ap (λ ys. x ∷ ys)
    (back_is p d xs zero (λ k less. absurd (omega arith)) (λ k from less. behind (suc k) (omega arith) (omega arith)) (omega arith))
    ∙ sym (ap (λ b. cond (not b) (x ∷ filter (λ y. not (p y)) xs) (filter (λ y. not (p y)) xs)) (behind 0 (omega arith) (omega arith)))
back_is p d (x ∷ xs) (suc i) before behind h =
    back_is p d xs i (λ k less. before (suc k) (omega arith)) (λ k from less. behind (suc k) (omega arith) (omega arith)) (omega arith)
    ∙ sym (ap (λ b. cond (not b) (x ∷ filter (λ y. not (p y)) xs) (filter (λ y. not (p y)) xs)) (before 0 (omega arith)))

abbrev pub no_tuple : Tuple
no_tuple = record { first = 0; last = 0; mark = None }

pub begun_front : (xs : List Tuple) (i bound : ℕ) → i ≤ length xs →
    IsPartitionPoint (λ (t : Tuple). nat_lt t.first bound ≡ true) (λ (t : Tuple). nat_lt t.first bound ≡ false) xs i →
    take i xs ≡ filter (λ t. nat_lt t.first bound) xs
begun_front xs i bound h parted =
    front_is (λ t. nat_lt t.first bound) no_tuple xs i (λ k less. parted.0 k no_tuple (omega arith) less)
    (λ k from less. parted.1 k no_tuple from less) h

pub begun_back : (xs : List Tuple) (i bound : ℕ) → i ≤ length xs →
    IsPartitionPoint (λ (t : Tuple). nat_lt t.first bound ≡ true) (λ (t : Tuple). nat_lt t.first bound ≡ false) xs i →
    drop i xs ≡ filter (λ t. not (nat_lt t.first bound)) xs
begun_back xs i bound h parted =
    back_is (λ t. nat_lt t.first bound) no_tuple xs i (λ k less. parted.0 k no_tuple (omega arith) less)
    (λ k from less. parted.1 k no_tuple from less) h

-- ---- a filter after a wider one

never : (b : Bool) → (b ≡ true → false ≡ true) → b ≡ false
never true so = sym (so refl)
never false so = refl

near_front : (p : Tuple → Bool) (b : Bool) (x : Tuple) (ys zs : List Tuple) → (p x ≡ true → b ≡ true) → filter p ys ≡ zs →
    filter p (cond b (x ∷ ys) ys) ≡ cond (p x) (x ∷ zs) zs
near_front p true x ys zs so rest = ap (λ us. cond (p x) (x ∷ us) us) rest
near_front p false x ys zs so rest = rest ∙ sym (ap (λ c. cond c (x ∷ zs) zs) (never (p x) so))

near_all : (p q : Tuple → Bool) (xs : List Tuple) → All (λ x. p x ≡ true → q x ≡ true) xs → filter p (filter q xs) ≡ filter p xs
near_all p q [] all = refl
near_all p q (x ∷ xs) all =
    near_front p (q x) x (filter q xs) (filter p xs) (All-head (λ y. p y ≡ true → q y ≡ true) x xs all)
    (near_all p q xs (All-tail (λ y. p y ≡ true → q y ≡ true) x xs all))

lt_test : (a b : ℕ) → a < b → nat_lt a b ≡ true
lt_test a b h = grind (arith, nat_tests)

not_below : (a b : ℕ) → b ≤ a → nat_lt a b ≡ false
not_below a b h = grind (arith, nat_tests)

from_test : (a b : ℕ) → b ≤ a → not (nat_lt a b) ≡ true
from_test a b h = ap not (not_below a b h)

-- what a tuple makes with those within its reach is what it makes with all
pub pairs_near : (way : Way) (one : Tuple) (reach : ℕ × ℕ) (others near : List Tuple) → ReachesAll way one reach →
    All (IsOther way) others →
    near ≡ filter (λ t. nat_lt t.first reach.1) (filter (λ t. not (nat_lt t.first reach.0)) others) →
    pairs_with (joins way) (makes way) near one ≡ pairs_with (joins way) (makes way) others one
pairs_near way one reach others near reaches are is =
    ap (map (makes way one))
    (ap (filter (joins way one)) is
    ∙ near_all (joins way one) (λ t. nat_lt t.first reach.1) (filter (λ t. not (nat_lt t.first reach.0)) others)
    (All-weaker (IsOther way) (λ t. joins way one t ≡ true → nat_lt t.first reach.1 ≡ true)
    (λ t other goes. lt_test t.first reach.1 (reaches.each t other goes).1) (filter (λ t. not (nat_lt t.first reach.0)) others)
    (All-filter (λ t. not (nat_lt t.first reach.0)) (IsOther way) others are))
    ∙ near_all (joins way one) (λ t. not (nat_lt t.first reach.0)) others
    (All-weaker (IsOther way) (λ t. joins way one t ≡ true → not (nat_lt t.first reach.0) ≡ true)
    (λ t other goes. from_test t.first reach.0 (reaches.each t other goes).0) others are))

pub near_others : (way : Way) (reach : ℕ × ℕ) (others near : List Tuple) → All (IsOther way) others →
    near ≡ filter (λ t. nat_lt t.first reach.1) (filter (λ t. not (nat_lt t.first reach.0)) others) → All (IsOther way) near
near_others way reach others near are is =
    subst (All (IsOther way)) (sym is)
    (All-filter (λ t. nat_lt t.first reach.1) (IsOther way) (filter (λ t. not (nat_lt t.first reach.0)) others)
    (All-filter (λ t. not (nat_lt t.first reach.0)) (IsOther way) others are))

-- ---- the reach of a row

flag_by : (row : List Bool) (place : ℕ) (o : Option Bool) → slice_get row place ≡ o → unwrap_or o false ≡ true → slice_get row place ≡ Some true
flag_by row place None is set = absurd cc
flag_by row place (Some true) is set = is
flag_by row place (Some false) is set = absurd cc

flag_there : (row : List Bool) (place : ℕ) → flag_at place row ≡ true → slice_get row place ≡ Some true
flag_there row place set = flag_by row place (slice_get row place) refl set

not_there : {A : Type 0} (row : List Bool) (place : ℕ) (P : ℕ → Type 0) → flag_at place row ≡ true → NoneWhere row P → P place → A
not_there row place P set none holds =
    let there : slice_get row place ≡ Some true = flag_there row place set in
    let out : slice_get row place ≡ Some false = none place (slice_get_within row place true there) holds in
    absurd cc

pub widens_none : (row : List Bool) (reach : ℕ × ℕ) → NoneWhere row (λ i. Unit {0}) → Widens row reach reach
widens_none row reach none = record {
  low = omega arith;
  high = omega arith;
  bits = λ place set. not_there row place (λ i. Unit {0}) set none tt;
}

pub widens_to : (row : List Bool) (reach : ℕ × ℕ) (first last : ℕ) → IsFirst row (Some first) → IsLast row (Some last) →
    Widens row reach (min reach.0 first, max reach.1 (last + 1))
widens_to row reach first last is_first is_last = record {
  low = omega arith;
  high = omega arith;
  bits = λ place set.
      let from : place < first → ⊥ = λ less. not_there row place (λ i. i < first) set is_first.1 less in
      let to : last < place → ⊥ = λ more. not_there row place (λ i. last < i) set is_last.1 more in
      (omega (arith, from), omega (arith, to));
}

-- ---- the reach of a stretch

push_range : (a n : ℕ) → range_with_len a (n + 1) ≡ range_with_len a n ++ (a + n) ∷ []
push_range a n =
    sym (map-id (range_with_len a (n + 1))) ∙ map-range_with_len_more (λ (k : ℕ). k) a n (a + n) (omega arith)
    ∙ ap (λ ks. ks ++ (a + n) ∷ []) (map-id (range_with_len a n))

either_of : (a b : Bool) → (a || (b || false)) ≡ true → (a ≡ true) ⊎ (b ≡ true)
either_of true b h = inl refl
either_of false true h = inr refl
either_of false false h = absurd cc

any_to : (p : ℕ → Bool) (first row : ℕ) → first ≤ row → list_any p (range_with_len first (row + 1 - first)) ≡ true →
    (list_any p (range_with_len first (row - first)) ≡ true) ⊎ (p row ≡ true)
any_to p first row h set =
    either_of (list_any p (range_with_len first (row - first))) (p row)
    (sym (ap (list_any p) split ∙ list_any-append p (range_with_len first (row - first)) (row ∷ [])) ∙ set)
  where
    split : range_with_len first (row + 1 - first) ≡ range_with_len first (row - first) ++ row ∷ []
    split =
        let more : row + 1 - first ≡ row - first + 1 = omega arith in
        let here : first + (row - first) ≡ row = omega arith in
        ap (range_with_len first) more ∙ push_range first (row - first) ∙ ap (λ k. range_with_len first (row - first) ++ k ∷ []) here

bit_of_row : (rows : List (List Bool)) (row place : ℕ) (r : List Bool) → slice_get rows row ≡ Some r → bit_at rows row place ≡ flag_at place r
bit_of_row rows row place r here =
    ap (λ xs. get_or xs place false) (get_or_from_slice_get rows row r [] here) ∙ sym (unwrap_or-slice_get r place false)

pub reach_none : (rows : List (List Bool)) (first : ℕ) (reach : ℕ × ℕ) → ReachesTo rows first first reach
reach_none rows first reach = record {
  each = λ place set.
      let none : first - first ≡ 0 = omega arith in
      let empty : list_any (λ i. bit_at rows i place) [] ≡ true =
      sym (ap (λ n. list_any (λ i. bit_at rows i place) (range_with_len first n)) none) ∙ set in
      absurd cc;
}

pub reach_more : (rows : List (List Bool)) (first row : ℕ) (r : List Bool) (old new : ℕ × ℕ) → ReachesTo rows first row old → Widens r old new →
    slice_get rows row ≡ Some r → first ≤ row → ReachesTo rows first (row + 1) new
reach_more rows first row r old new so_far wider here h = record {
  each = λ place set. by place (any_to (λ i. bit_at rows i place) first row h set);
}
  where
    by : (place : ℕ) →
        (list_any (λ i. bit_at rows i place) (range_with_len first (row - first)) ≡ true) ⊎ (bit_at rows row place ≡ true) →
        IsWithin new place
    by place (inl before) =
        let within = so_far.each place before in
        (omega (arith, within.0, wider.low), omega (arith, within.1, wider.high))
    by place (inr own) = wider.bits place (sym (bit_of_row rows row place r here) ∙ own)

pub reach_all : (rows : List (List Bool)) (upper : Tuple) (row : ℕ) (reach : ℕ × ℕ) → ReachesTo rows upper.first row reach →
    row ≡ upper.last + 1 → Reaches rows upper reach
reach_all rows upper row reach so_far end = record {
  each = λ place set.
      so_far.each place
      (ap (λ n. list_any (λ i. bit_at rows i place) (range_with_len upper.first (n - upper.first))) end ∙ set);
}

-- ---- the reach of a tuple

first_under : (p : ℕ → Bool) (first last : ℕ) → first ≤ last → list_all p (range_with_len first (last + 1 - first)) ≡ true → p first ≡ true
first_under p first last h all =
    let long : last + 1 - first ≡ suc (last - first) = omega arith in
    (and_parts (p first) (list_all p (range_with_len (first + 1) (last - first)))
    (sym (ap (λ n. list_all p (range_with_len first n)) long) ∙ all)).0

rises : (rows : List (List Bool)) (one other : Tuple) → fits_in (length rows) one ≡ true →
    All (λ row. fits_in (length row) other ≡ true) rows → other.first ≤ other.last
rises [] one other fits all =
    let none : one.last < 0 = ltb-true one.last 0 (and_parts (nat_le one.first one.last) (nat_lt one.last 0) fits).1 in
    absurd (omega arith)
rises (row ∷ rows) one other fits all =
    leb-true other.first other.last
    (and_parts (nat_le other.first other.last) (nat_lt other.last (length row))
    (All-head (λ r. fits_in (length r) other ≡ true) row rows all)).0

reaches_by : (rows : List (List Bool)) (one other : Tuple) (reach : ℕ × ℕ) → Reaches rows one reach → fits_in (length rows) one ≡ true →
    All (λ row. fits_in (length row) other ≡ true) rows → bits_cover rows one other ≡ true → IsWithin reach other.first
reaches_by rows one other reach reaches fits all covers =
    reaches.each other.first (first_under (is_under rows one) other.first other.last (rises rows one other fits all) covers)

pub reaches_behind : (one : Tuple) (reach : ℕ × ℕ) → reach ≡ (one.last + 1, one.last + 2) → ReachesAll Behind one reach
reaches_behind one reach is = record {
  each = λ other are goes.
      let next : one.last + 1 ≡ other.first = eqb-true (one.last + 1) other.first goes in
      subst (λ (r : ℕ × ℕ). IsWithin r other.first) (sym is) (omega arith, omega arith);
}

pub reaches_covers : (rows : List (List Bool)) (one : Tuple) (reach : ℕ × ℕ) → Reaches rows one reach → fits_in (length rows) one ≡ true →
    ReachesAll (Covers rows) one reach
reaches_covers rows one reach reaches fits = record {
  each = λ other are goes. reaches_by rows one other reach reaches fits are goes;
}

pub reaches_left : (rows : List (List Bool)) (one : Tuple) (reach : ℕ × ℕ) → Reaches rows one reach → fits_in (length rows) one ≡ true →
    ReachesAll (CoversLeft rows) one reach
reaches_left rows one reach reaches fits = record {
  each = λ other are goes. reaches_by rows one other reach reaches fits are goes;
}

pub fits_rises : (n : ℕ) (t : Tuple) → fits_in n t ≡ true → t.first ≤ t.last
fits_rises n t fits = leb-true t.first t.last (and_parts (nat_le t.first t.last) (nat_lt t.last n) fits).0
