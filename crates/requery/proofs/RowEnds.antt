-- The stretch from the first bit of a row to its last, and stretches that are widened by rows.
use Rattle.std.proofs.Common.{◌≡◌, ◌≢◌, ℕ, suc, ◌+◌, ◌<◌, ◌≤◌, ◌⊎◌, inl, inr, Bool, true, false, cond, ◌||◌, ◌&&◌, List, [], ◌∷◌, length, get_or, Option, None, Some, refl, sym, ap, ◌∙◌, arith, nat_lt, nat_le}
use Rattle.std.specs.Prelude.{unwrap_or, map}
use Rattle.std.specs.List.{filter, range_with_len, slice_get}
use Rattle.std.proofs.lemmas.Bool.{cases_lt}
use Rattle.std.proofs.lemmas.Bool.Decides.{nat_tests}
use Rattle.std.proofs.lemmas.Option.{slice_get_within, unwrap_or-slice_get}
use Rattle.lane_bits.specs.Inner.Row.{IsFirst, IsLast, IsNext}
use Rattle.eql_tuples.specs.declared.tuple.Tuple.{Tuple}
use Rattle.eql_rows.specs.Inner.Flags.{flag_at}
use Rattle.eql_tuples.specs.Shown.{bare}
use Rattle.eql_rows.proofs.Walk.{none_among}
use Rattle.requery.specs.Reach.{whole_stretch}
use Rattle.requery.specs.Inner.Ways.{AreWidened, row_stretch, union, one_if}
use Rattle.requery.proofs.Members.{is_in, is_kept, kept_is, whole_is}
use Rattle.requery.proofs.Unions.{union_none}

flag_of : (row : List Bool) (k : ℕ) (bit : Bool) → slice_get row k ≡ Some bit → flag_at k row ≡ bit
flag_of row k bit is = ap (λ o. unwrap_or o false) is

abbrev flag_in : List Bool → ℕ → Bool
flag_in row k = flag_at k row

-- ---- the first and the last bit

pub first_to_last : (row : List Bool) (f l : ℕ) → IsFirst row (Some f) → IsLast row (Some l) → Some (bare f l) ≡ row_stretch row
first_to_last row f l first last =
    whole_is (filter (flag_in row) (range_with_len 0 (length row))) f l
    (is_kept (flag_in row) f (length row) (slice_get_within row f true first.0) ∙ flag_of row f true first.0)
    (is_kept (flag_in row) l (length row) (slice_get_within row l true last.0) ∙ flag_of row l true last.0)
    between
  where
    low : (k : ℕ) → flag_at k row ≡ true → k < length row → (k < f) ⊎ (f ≤ k) → f ≤ k
    low k set within (inl h) = let clear = flag_of row k false (first.1 k within h) in absurd cc
    low k set within (inr h) = h

    high : (k : ℕ) → flag_at k row ≡ true → k < length row → (l < k) ⊎ (k ≤ l) → k ≤ l
    high k set within (inl h) = let clear = flag_of row k false (last.1 k within h) in absurd cc
    high k set within (inr h) = h

    between : (k : ℕ) → is_in k (filter (flag_in row) (range_with_len 0 (length row))) ≡ true → (f ≤ k) × (k ≤ l)
    between k is =
        let kept = kept_is (flag_in row) k (length row) is in
        (low k kept.0 kept.1 (cases_lt k f), high k kept.0 kept.1 (cases_lt l k))

pub no_last : {A : Type 0} (row : List Bool) (f : ℕ) → IsFirst row (Some f) → IsLast row None → A
no_last row f first none =
    let set : slice_get row f ≡ Some true = first.0 in
    let clear : slice_get row f ≡ Some false = none f (slice_get_within row f true first.0) tt in
    absurd cc

pub no_bit : (row : List Bool) → IsFirst row None → None ≡ row_stretch row
no_bit row none =
    sym (ap whole_stretch (none_among (flag_in row) 0 (length row)
    (λ i low high. flag_of row i false (none i (let h : i < 0 + length row = high in omega arith) tt))))

-- ---- a walk over the bits of a row

-- the stretches of the items before a place are widened
pub record AreWidenedTo (row : List Bool) (at from : ℕ) (old new : List (Option Tuple)) : Type 0 where
  pub count : length new ≡ length old
  pub each : (i : ℕ) → i < length old → get_or new i None ≡ union (get_or old i None) (one_if (nat_lt i from && flag_at i row) at)

no_union : (a : Option Tuple) (b : Bool) (at : ℕ) → b ≡ false → union a (one_if b at) ≡ a
no_union a b at none = ap (λ c. union a (one_if c at)) none ∙ union_none a

same_test : (b c : Bool) (a : Option Tuple) (at : ℕ) → b ≡ c → union a (one_if b at) ≡ union a (one_if c at)
same_test b c a at e = ap (λ x. union a (one_if x at)) e

both_false : (a b : Bool) → b ≡ false → (a && b) ≡ false
both_false true b e = e
both_false false b e = refl

pub widened_start : (row : List Bool) (at : ℕ) (old : List (Option Tuple)) → AreWidenedTo row at 0 old old
widened_start row at old = record {
  count = refl;
  each = λ i h.
      let none : nat_lt i 0 && flag_at i row ≡ false = let n : nat_lt i 0 ≡ false = grind (arith, nat_tests) in ap (λ b. b && flag_at i row) n in
      sym (no_union (get_or old i None) (nat_lt i 0 && flag_at i row) at none);
}

module _ (row : List Bool) (at from p : ℕ) (next : IsNext from row (Some p)) where
  -- the test of an item that is no set one between
  later : (i : ℕ) → i < length row → i ≢ p → (i < from) ⊎ (from ≤ i) → (i < p) ⊎ (p ≤ i) → (nat_lt i from && flag_at i row) ≡ (nat_lt i (p + 1) && flag_at i row)
  later i within other (inl h) side =
      let before : nat_lt i from ≡ true = grind (arith, nat_tests) in
      let behind : nat_lt i (p + 1) ≡ true = let order = next.0 in grind (arith, nat_tests) in
      ap (λ b. b && flag_at i row) (before ∙ sym behind)
  later i within other (inr h) (inl h') =
      let clear : flag_at i row ≡ false = flag_of row i false (next.2 i within (h, h')) in
      both_false (nat_lt i from) (flag_at i row) clear ∙ sym (both_false (nat_lt i (p + 1)) (flag_at i row) clear)
  later i within other (inr h) (inr h') =
      let before : nat_lt i from ≡ false = grind (arith, nat_tests) in
      let behind : nat_lt i (p + 1) ≡ false = grind (arith, nat_tests) in
      ap (λ b. b && flag_at i row) (before ∙ sym behind)

  here : (old : Option Tuple) → union (union old (one_if (nat_lt p from && flag_at p row) at)) (Some (bare at at)) ≡ union old (one_if (nat_lt p (p + 1) && flag_at p row) at)
  here old =
      let before : nat_lt p from && flag_at p row ≡ false =
      let n : nat_lt p from ≡ false = let order = next.0 in grind (arith, nat_tests) in ap (λ b. b && flag_at p row) n in
      let behind : nat_lt p (p + 1) && flag_at p row ≡ true =
      let n : nat_lt p (p + 1) ≡ true = grind (arith, nat_tests) in (λ i. n i && flag_of row p true next.1 i) in
      ap (λ a. union a (Some (bare at at))) (no_union old (nat_lt p from && flag_at p row) at before)
      ∙ sym (same_test (nat_lt p (p + 1) && flag_at p row) true old at behind)

  -- one set bit more
  pub widened_more : (old now new : List (Option Tuple)) → length row ≡ length old → AreWidenedTo row at from old now → length new ≡ length now
      → get_or new p None ≡ union (get_or now p None) (Some (bare at at))
      → ((i : ℕ) → i < length now → i ≢ p → get_or new i None ≡ get_or now i None) → AreWidenedTo row at (p + 1) old new
  widened_more old now new wide so same put others = record {
    count = same ∙ so.count;
    each = λ i h. one i h (cases_lt i p) (cases_lt p i);
  }
    where
      elsewhere : (i : ℕ) → i < length old → i ≢ p → get_or new i None ≡ union (get_or old i None) (one_if (nat_lt i (p + 1) && flag_at i row) at)
      elsewhere i h other =
          others i (let n = so.count in omega arith) other ∙ so.each i h
          ∙ same_test (nat_lt i from && flag_at i row) (nat_lt i (p + 1) && flag_at i row) (get_or old i None) at
          (later i (let n = wide in omega arith) other (cases_lt i from) (cases_lt i p))

      one : (i : ℕ) → i < length old → (i < p) ⊎ (p ≤ i) → (p < i) ⊎ (i ≤ p) → get_or new i None ≡ union (get_or old i None) (one_if (nat_lt i (p + 1) && flag_at i row) at)
      one i h (inl less) side = elsewhere i h (let ne : i ≢ p = omega arith in ne)
      one i h (inr more) (inl above) = elsewhere i h (let ne : i ≢ p = omega arith in ne)
      one i h (inr more) (inr less) =
          let same_place : i ≡ p = omega arith in
          ap (λ k. get_or new k None) same_place ∙ put
          ∙ ap (λ a. union a (Some (bare at at))) (so.each p (let e = same_place in omega arith)) ∙ here (get_or old p None)
          ∙ ap (λ k. union (get_or old k None) (one_if (nat_lt k (p + 1) && flag_at k row) at)) (sym same_place)

-- all bits were set
pub widened_all : (row : List Bool) (at from : ℕ) (old now : List (Option Tuple)) → length row ≡ length old → IsNext from row None → AreWidenedTo row at from old now → AreWidened row at old now
widened_all row at from old now wide none so = record {
  count = so.count;
  each = λ i h. so.each i h ∙ same_test (nat_lt i from && flag_at i row) (flag_at i row) (get_or old i None) at (by i (let n = wide in omega arith) (cases_lt i from));
}
  where
    by : (i : ℕ) → i < length row → (i < from) ⊎ (from ≤ i) → (nat_lt i from && flag_at i row) ≡ flag_at i row
    by i within (inl h) = let before : nat_lt i from ≡ true = grind (arith, nat_tests) in ap (λ b. b && flag_at i row) before
    by i within (inr h) =
        let clear : flag_at i row ≡ false = flag_of row i false (none i within h) in
        both_false (nat_lt i from) (flag_at i row) clear ∙ sym clear
