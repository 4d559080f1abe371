-- The first and the last place at which some row of a stretch has a bit, row by row.
use Rattle.std.proofs.Common.{◌≡◌, ◌⊎◌, inl, inr, ℕ, ◌+◌, ◌-◌, ◌<◌, ◌≤◌, Bool, true, false, ◌||◌, List, [], ◌∷◌, ◌++◌, length, get_or, Option, None, Some, refl, sym, ap, subst, ◌∙◌, arith, nat_lt, nat_le}
use Rattle.std.specs.Prelude.{All, min, max}
use Rattle.std.specs.List.{list_any, range_with_len, slice_get}
use Rattle.std.proofs.Math.Nat.{min-eq_left, min-eq_right, max-eq_left, max-eq_right, min-le_left, min-le_right, le-max_left, le-max_right, le_trans}
use Rattle.std.proofs.Math.Bool.{or-false}
use Rattle.std.proofs.lemmas.Bool.{and_parts, cases_lt, leb-true}
use Rattle.std.proofs.lemmas.List.{get_or_past, map-id}
use Rattle.std.proofs.lemmas.List.Elements.{All-get_or}
use Rattle.std.proofs.lemmas.List.Folds.{list_any-append}
use Rattle.std.proofs.lemmas.List.FromFn.{map-range_with_len_more}
use Rattle.std.proofs.lemmas.Option.{get_or_from_slice_get, slice_get_within}
use Rattle.lane_bits.specs.Inner.Row.{IsFirst, IsLast}
use Rattle.eql_tuples.specs.declared.tuple.Tuple.{Tuple}
use Rattle.eql_tuples.specs.Tuples.{fits_in}
use Rattle.eql_tuples.specs.Inner.Stretches.{positions}
use Rattle.eql_model.specs.Inner.Ends.{AreEnds, round_both, is_under_some}
use Rattle.eql_model.specs.Inner.Joins.{bit_at, is_under}

-- ---- tests

-- the same ends of a test that answers the same
ends_same : (p q : ℕ → Bool) → ((k : ℕ) → p k ≡ q k) → (found : Option (ℕ × ℕ)) → AreEnds p found → AreEnds q found
ends_same p q same None are = λ k. sym (same k) ∙ are k
ends_same p q same (Some ends) are =
    (sym (same ends.0) ∙ are.0, sym (same ends.1) ∙ are.1, λ k set. are.2 k (same k ∙ set))

or_left : (a b : Bool) → a ≡ true → (a || b) ≡ true
or_left a b set = ap (λ x. x || b) set

or_right : (a b : Bool) → b ≡ true → (a || b) ≡ true
or_right true b set = refl
or_right false b set = set

or_parts : (a b : Bool) → (a || b) ≡ true → (a ≡ true) ⊎ (b ≡ true)
or_parts true b set = inl refl
or_parts false b set = inr set

at_min : (test : ℕ → Bool) (m n : ℕ) → test m ≡ true → test n ≡ true → test (min m n) ≡ true
at_min test m n left right = by (cases_lt m n)
  where
    by : (m < n) ⊎ (n ≤ m) → test (min m n) ≡ true
    by (inl h) = ap test (min-eq_left (omega arith)) ∙ left
    by (inr h) = ap test (min-eq_right h) ∙ right

at_max : (test : ℕ → Bool) (m n : ℕ) → test m ≡ true → test n ≡ true → test (max m n) ≡ true
at_max test m n left right = by (cases_lt m n)
  where
    by : (m < n) ⊎ (n ≤ m) → test (max m n) ≡ true
    by (inl h) = ap test (max-eq_right (omega arith)) ∙ right
    by (inr h) = ap test (max-eq_left h) ∙ left

-- the ends of either of two tests
both_ends : (p q : ℕ → Bool) (one other : Option (ℕ × ℕ)) → AreEnds p one → AreEnds q other →
    AreEnds (λ k. p k || q k) (round_both one other)
both_ends p q None None near far = λ k i. near k i || far k i
both_ends p q None (Some z) near far =
    (or_right (p z.0) (q z.0) far.0, or_right (p z.1) (q z.1) far.1, λ k set. far.2 k (sym (ap (λ b. b || q k) (near k)) ∙ set))
both_ends p q (Some a) None near far = (
  or_left (p a.0) (q a.0) near.0,
  or_left (p a.1) (q a.1) near.1,
  λ k set. near.2 k (sym (or-false (p k)) ∙ sym (ap (λ b. p k || b) (far k)) ∙ set),
)
both_ends p q (Some a) (Some z) near far = (
  at_min (λ k. p k || q k) a.0 z.0 (or_left (p a.0) (q a.0) near.0) (or_right (p z.0) (q z.0) far.0),
  at_max (λ k. p k || q k) a.1 z.1 (or_left (p a.1) (q a.1) near.1) (or_right (p z.1) (q z.1) far.1),
  λ k set. by k (or_parts (p k) (q k) set),
)
  where
    by : (k : ℕ) → (p k ≡ true) ⊎ (q k ≡ true) → (min a.0 z.0 ≤ k) × (k ≤ max a.1 z.1)
    by k (inl set) =
        let here = near.2 k set in
        (le_trans (min-le_left a.0 z.0) here.0, le_trans here.1 (le-max_left a.1 z.1))
    by k (inr set) =
        let here = far.2 k set in
        (le_trans (min-le_right a.0 z.0) here.0, le_trans here.1 (le-max_right a.1 z.1))

-- ---- one row

bit_of : (row : List Bool) (k : ℕ) (bit : Bool) → slice_get row k ≡ Some bit → get_or row k false ≡ bit
bit_of row k bit is = get_or_from_slice_get row k bit false is

set_within : (row : List Bool) (k : ℕ) → get_or row k false ≡ true → (k < length row) ⊎ (length row ≤ k) → k < length row
set_within row k set (inl h) = h
set_within row k set (inr h) = let clear : get_or row k false ≡ false = get_or_past row k false h in absurd cc

pub first_to_last : (row : List Bool) (first last : ℕ) → IsFirst row (Some first) → IsLast row (Some last) →
    AreEnds (λ k. get_or row k false) (Some (first, last))
first_to_last row first last low high =
    (bit_of row first true low.0, bit_of row last true high.0, λ k set. between k set (set_within row k set (cases_lt k (length row))))
  where
    behind : (k : ℕ) → get_or row k false ≡ true → k < length row → (k < first) ⊎ (first ≤ k) → first ≤ k
    behind k set within (inl h) = let clear = bit_of row k false (low.1 k within h) in absurd cc
    behind k set within (inr h) = h

    before : (k : ℕ) → get_or row k false ≡ true → k < length row → (last < k) ⊎ (k ≤ last) → k ≤ last
    before k set within (inl h) = let clear = bit_of row k false (high.1 k within h) in absurd cc
    before k set within (inr h) = h

    between : (k : ℕ) → get_or row k false ≡ true → k < length row → (first ≤ k) × (k ≤ last)
    between k set within = (behind k set within (cases_lt k first), before k set within (cases_lt last k))

pub no_last : {A : Type 0} (row : List Bool) (first : ℕ) → IsFirst row (Some first) → IsLast row None → A
no_last row first low none =
    let set : slice_get row first ≡ Some true = low.0 in
    let clear : slice_get row first ≡ Some false = none first (slice_get_within row first true low.0) tt in
    absurd cc

pub no_bit : (row : List Bool) → IsFirst row None → AreEnds (λ k. get_or row k false) None
no_bit row none = λ k. by k (cases_lt k (length row))
  where
    by : (k : ℕ) → (k < length row) ⊎ (length row ≤ k) → get_or row k false ≡ false
    by k (inl h) = bit_of row k false (none k h tt)
    by k (inr h) = get_or_past row k false h

-- ---- row by row

push_range : (a n : ℕ) → range_with_len a (n + 1) ≡ range_with_len a n ++ (a + n) ∷ []
push_range a n =
    sym (map-id (range_with_len a (n + 1))) ∙ map-range_with_len_more (λ (k : ℕ). k) a n (a + n) (omega arith)
    ∙ ap (λ ks. ks ++ (a + n) ∷ []) (map-id (range_with_len a n))

any_to : (p : ℕ → Bool) (first row : ℕ) → first ≤ row →
    (list_any p (range_with_len first (row - first)) || p row) ≡ list_any p (range_with_len first (row + 1 - first))
any_to p first row h =
    ap (λ b. list_any p (range_with_len first (row - first)) || b) (sym (or-false (p row)))
    ∙ sym (ap (list_any p) split ∙ list_any-append p (range_with_len first (row - first)) (row ∷ []))
  where
    split : range_with_len first (row + 1 - first) ≡ range_with_len first (row - first) ++ row ∷ []
    split =
        let more : row + 1 - first ≡ row - first + 1 = omega arith in
        let here : first + (row - first) ≡ row = omega arith in
        ap (range_with_len first) more ∙ push_range first (row - first) ∙ ap (λ k. range_with_len first (row - first) ++ k ∷ []) here

pub ends_none : (rows : List (List Bool)) (first : ℕ) → AreEnds (is_under_some rows first first) None
ends_none rows first = λ k.
    let none : first - first ≡ 0 = omega arith in ap (λ n. list_any (λ i. bit_at rows i k) (range_with_len first n)) none

pub ends_more : (rows : List (List Bool)) (first row : ℕ) (r : List Bool) (old own new : Option (ℕ × ℕ)) →
    AreEnds (is_under_some rows first row) old → slice_get rows row ≡ Some r → first ≤ row →
    AreEnds (λ k. get_or r k false) own → new ≡ round_both old own → AreEnds (is_under_some rows first (row + 1)) new
ends_more rows first row r old own new so_far here h are is =
    subst (AreEnds (is_under_some rows first (row + 1))) (sym is)
    (ends_same (λ k. is_under_some rows first row k || get_or r k false) (is_under_some rows first (row + 1)) step (round_both old own)
    (both_ends (is_under_some rows first row) (λ k. get_or r k false) old own so_far are))
  where
    bit_here : (k : ℕ) → get_or r k false ≡ bit_at rows row k
    bit_here k = sym (ap (λ xs. get_or xs k false) (get_or_from_slice_get rows row r [] here))

    step : (k : ℕ) → (is_under_some rows first row k || get_or r k false) ≡ is_under_some rows first (row + 1) k
    step k = ap (λ b. is_under_some rows first row k || b) (bit_here k) ∙ any_to (λ i. bit_at rows i k) first row h

pub ends_all : (rows : List (List Bool)) (upper : Tuple) (row : ℕ) (found : Option (ℕ × ℕ)) →
    AreEnds (is_under_some rows upper.first row) found → row ≡ upper.last + 1 → AreEnds (is_under rows upper) found
ends_all rows upper row found so_far end =
    ends_same (is_under_some rows upper.first row) (is_under rows upper)
    (λ k. ap (λ n. list_any (λ i. bit_at rows i k) (range_with_len upper.first (n - upper.first))) end) found so_far

pub fits_rises : (n : ℕ) (t : Tuple) → fits_in n t ≡ true → t.first ≤ t.last
fits_rises n t fits = leb-true t.first t.last (and_parts (nat_le t.first t.last) (nat_lt t.last n) fits).0

-- ---- within the rows

any_false : (p : ℕ → Bool) (is : List ℕ) → ((i : ℕ) → p i ≡ false) → list_any p is ≡ false
any_false p [] none = refl
any_false p (i ∷ is) none = ap (λ b. b || list_any p is) (none i) ∙ any_false p is none

-- what lies below a stretch is within the width of the rows
pub under_within : (rows : List (List Bool)) (n : ℕ) (upper : Tuple) (k : ℕ) → All (λ row. length row ≡ n) rows →
    is_under rows upper k ≡ true → k < n
under_within rows n upper k wide set = by (cases_lt k n)
  where
    short : (i : ℕ) → n ≤ k → (i < length rows) ⊎ (length rows ≤ i) → length (get_or rows i []) ≤ k
    short i past (inl h) = let same = All-get_or (λ row. length row ≡ n) rows i [] h wide in omega arith
    short i past (inr h) = let none : length (get_or rows i []) ≡ 0 = ap length (get_or_past rows i [] h) in omega arith

    by : (k < n) ⊎ (n ≤ k) → k < n
    by (inl h) = h
    by (inr h) =
        let clear : is_under rows upper k ≡ false =
        any_false (λ i. bit_at rows i k) (positions upper) (λ i. get_or_past (get_or rows i []) k false (short i h (cases_lt i (length rows)))) in
        absurd cc
