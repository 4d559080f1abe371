-- A walk over the set places of a row, from one to the next.
use Rattle.std.proofs.Common.{inl, inr, ◌≡◌, ℕ, zero, suc, ◌+◌, ◌-◌, ◌<◌, ◌≤◌, Bool, true, false, cond, ◌||◌, ◌&&◌, List, [], ◌∷◌, ◌++◌, length, map, get_or, Some, refl, sym, ap, ◌∙◌, arith}
use Rattle.std.specs.Prelude.{All, None, replicate, slice_set, unwrap_or}
use Rattle.std.specs.List.{filter, list_any, range_with_len, slice_get}
use Rattle.std.specs.Simd.Lanes.{zip2}
use Rattle.std.proofs.lemmas.Bool.{cases_eq, cases_lt}
use Rattle.std.proofs.lemmas.List.{append-nil, get_or-replicate, get_or-set_same, get_or-set_other, length-replicate, length-set}
use Rattle.std.proofs.lemmas.List.Elements.{All-get_or}
use Rattle.std.proofs.lemmas.List.Folds.{list_any-append}
use Rattle.std.proofs.lemmas.List.FromFn.{fill_by_all, length-map-range_with_len}
use Rattle.std.proofs.lemmas.Option.{get_or_from_slice_get, slice_get_past, slice_get_within, unwrap_or-slice_get}
use Rattle.std.proofs.lemmas.Simd.{zip2-map, length-zip2, get_or-zip2}
use Rattle.lane_bits.specs.Inner.Row.{IsNext}
use Rattle.eql_rows.specs.Inner.Flags.{flag_at}
use Rattle.eql_model.specs.Inner.Joins.{bit_at}
use Rattle.eql_tuples.specs.declared.tuple.Tuple.{Tuple}
use Rattle.eql_rows.proofs.Walk.{range_split, same_places, one_place_more, no_flag, NextFlag, NoneFrom}
use Rattle.eql_match.specs.Inner.Found.{followed, is_above_some, neighbours, with_below}
use Rattle.eql_columns.proofs.Bits.{flags_are, or_false}

-- ---- what a test finds among the first places

pub none_any : (q : ℕ → Bool) (a n : ℕ) → ((i : ℕ) → a ≤ i → i < a + n → q i ≡ false) → list_any q (range_with_len a n) ≡ false
none_any q a zero none = refl
none_any q a (suc n) none =
    ap (λ b. b || list_any q (range_with_len (a + 1) n)) (none a (omega arith) (omega arith))
    ∙ none_any q (a + 1) n (λ i from to. none i (omega arith) (omega arith))

pub same_any : (q : ℕ → Bool) (from to : ℕ) → from ≤ to → NoneFrom q from to →
    list_any q (range_with_len 0 to) ≡ list_any q (range_with_len 0 from)
same_any q from to order none =
    let e : to ≡ from + (to - from) = omega arith in
    ap (λ j. list_any q (range_with_len 0 j)) e ∙ ap (list_any q) (range_split 0 from (to - from))
    ∙ list_any-append q (range_with_len 0 from) (range_with_len (0 + from) (to - from))
    ∙ ap (λ b. list_any q (range_with_len 0 from) || b) (none_any q (0 + from) (to - from) (λ i low high. none i (omega arith) (omega arith)))
    ∙ or_false (list_any q (range_with_len 0 from))

pub one_any_more : (q : ℕ → Bool) (from at : ℕ) → from ≤ at → NoneFrom q from at →
    list_any q (range_with_len 0 (at + 1)) ≡ (list_any q (range_with_len 0 from) || q at)
one_any_more q from at order none =
    ap (list_any q) (range_split 0 at 1) ∙ list_any-append q (range_with_len 0 at) (range_with_len (0 + at) 1)
    ∙ (λ i. same_any q from at order none i || or_false (q (place i)) i)
  where
    place : 0 + at ≡ at
    place = omega arith

pub and_clear : (a b : Bool) → a ≡ false → (a && b) ≡ false
and_clear a b is = ap (λ c. c && b) is

-- ---- neighbours

pub follow_step : (lefts rights : List Bool) (from at : ℕ) (made more : List Tuple) → NextFlag lefts from at →
    made ≡ map neighbours (filter (λ k. flag_at k lefts && flag_at (k + 1) rights) (range_with_len 0 from)) →
    more ≡ made ++ map neighbours (filter (λ k. flag_at (k + 1) rights) (at ∷ [])) →
    more ≡ map neighbours (filter (λ k. flag_at k lefts && flag_at (k + 1) rights) (range_with_len 0 (at + 1)))
follow_step lefts rights from at made more next so_far put =
    put ∙ (λ i. so_far i ++ map neighbours (cond (sym one i) (at ∷ []) []))
    ∙ sym (map_append neighbours (filter q (range_with_len 0 from)) (filter q (at ∷ [])))
    ∙ ap (map neighbours) (sym (one_place_more q from at next.order (λ i low high. and_clear (flag_at i lefts) (flag_at (i + 1) rights) (next.clear i low high))))
  where
    q : ℕ → Bool
    q = λ k. flag_at k lefts && flag_at (k + 1) rights

    one : q at ≡ flag_at (at + 1) rights
    one = ap (λ b. b && flag_at (at + 1) rights) next.set

    map_append : (f : ℕ → Tuple) (xs ys : List ℕ) → map f (xs ++ ys) ≡ map f xs ++ map f ys
    map_append f [] ys = refl
    map_append f (x ∷ xs) ys = ap (λ zs. f x ∷ zs) (map_append f xs ys)

pub follow_end : (lefts rights : List Bool) (from : ℕ) (made : List Tuple) → IsNext from lefts None → from ≤ length lefts →
    made ≡ map neighbours (filter (λ k. flag_at k lefts && flag_at (k + 1) rights) (range_with_len 0 from)) → made ≡ followed lefts rights
follow_end lefts rights from made none order so_far =
    so_far
    ∙ ap (map neighbours) (sym (same_places (λ k. flag_at k lefts && flag_at (k + 1) rights) from (length lefts) order
    (λ i low high. and_clear (flag_at i lefts) (flag_at (i + 1) rights) (no_flag lefts from none i low high))))

-- ---- the items above some

-- the places before one have been asked, all others are clear
pub record AskedTo (f : ℕ → Bool) (n : ℕ) (made : List Bool) (at : ℕ) : Type 0 where
  pub count : length made ≡ n
  pub before : (k : ℕ) → k < at → get_or made k false ≡ f k
  pub behind : (k : ℕ) → at ≤ k → k < n → get_or made k false ≡ false

pub asked_none : (f : ℕ → Bool) (n : ℕ) (made : List Bool) → made ≡ replicate n false → AskedTo f n made 0
asked_none f n made is = record {
  count = ap length is ∙ length-replicate n false;
  before = λ k below. absurd (omega arith);
  behind = λ k from below. ap (λ row. get_or row k false) is ∙ get_or-replicate n k false false below;
}

asked_early : (f : ℕ → Bool) (n from at : ℕ) (made : List Bool) → AskedTo f n made from → NoneFrom f from at → at < n → (k : ℕ) → k < at →
    get_or made k false ≡ f k
asked_early f n from at made so_far none within k below = elim (cases_lt k from) [
  | inl early ↦ so_far.before k early
  | inr late ↦ so_far.behind k late (omega arith) ∙ sym (none k late below)
]

asked_before : (f : ℕ → Bool) (n from at : ℕ) (made : List Bool) (bit : Bool) → AskedTo f n made from → from ≤ at → at < n →
    NoneFrom f from at → bit ≡ f at → (k : ℕ) → k < at + 1 → get_or (slice_set made at bit) k false ≡ f k
asked_before f n from at made bit so_far order within none is k below = elim (cases_eq k at) [
  | inl here ↦
      ap (λ i. get_or (slice_set made at bit) i false) here
      ∙ get_or-set_same made at bit false (omega (arith, so_far.count)) ∙ is ∙ ap f (sym here)
  | inr other ↦ get_or-set_other made at k bit false other ∙ asked_early f n from at made so_far none within k (omega arith)
]

pub asked_more : (f : ℕ → Bool) (n from at : ℕ) (made more : List Bool) (bit : Bool) → AskedTo f n made from → from ≤ at → at < n →
    NoneFrom f from at → bit ≡ f at → more ≡ slice_set made at bit → AskedTo f n more (at + 1)
asked_more f n from at made more bit so_far order within none is put = record {
  count = ap length put ∙ length-set made at bit ∙ so_far.count;
  before = λ k below. ap (λ row. get_or row k false) put ∙ asked_before f n from at made bit so_far order within none is k below;
  behind = λ k past below.
      ap (λ row. get_or row k false) put ∙ get_or-set_other made at k bit false (λ e. omega arith)
      ∙ so_far.behind k (omega arith) below;
}

pub asked_all : (f : ℕ → Bool) (n from : ℕ) (made : List Bool) → AskedTo f n made from → NoneFrom f from n → made ≡ map f (range_with_len 0 n)
asked_all f n from made so_far none =
    fill_by_all f made n false so_far.count (λ k below. elim (cases_lt k from) [
      | inl early ↦ so_far.before k early
      | inr late ↦ so_far.behind k late below ∙ sym (none k late below)
    ])

-- a row and the right one have a common bit
pub meets_some : (rows : List (List Bool)) (row rights : List Bool) (k : ℕ) → slice_get rows k ≡ Some row → length row ≡ length rights →
    list_any (λ bit. bit) (zip2 (λ a b. a && b) row rights) ≡ is_above_some rows rights k
meets_some rows row rights k there long =
    ap (list_any (λ bit. bit)) bits ∙ any_map (λ j. flag_at j rights && bit_at rows k j) (range_with_len 0 (length rights))
  where
    any_map : (f : ℕ → Bool) (xs : List ℕ) → list_any (λ bit. bit) (map f xs) ≡ list_any f xs
    any_map f [] = refl
    any_map f (x ∷ xs) = ap (λ b. f x || b) (any_map f xs)

    swap : (a b : Bool) → (a && b) ≡ (b && a)
    swap true true = refl
    swap true false = refl
    swap false true = refl
    swap false false = refl

    bits : zip2 (λ a b. a && b) row rights ≡ map (λ j. flag_at j rights && bit_at rows k j) (range_with_len 0 (length rights))
    bits =
        fill_by_all (λ j. flag_at j rights && bit_at rows k j) (zip2 (λ a b. a && b) row rights) (length rights) false
        (length-zip2 (λ a b. a && b) row rights long ∙ long)
        (λ j below.
        get_or-zip2 (λ a b. a && b) row rights j false false false (omega arith) below
        ∙ swap (get_or row j false) (get_or rights j false)
        ∙ (λ i. sym (unwrap_or-slice_get rights j false) i && get_or (sym (get_or_from_slice_get rows k row [] there) i) j false))

-- ---- the items below some, beside those that were set before

pub below_none : (h : ℕ → ℕ → Bool) (n : ℕ) (before : List Bool) → length before ≡ n →
    before ≡ map (λ k. flag_at k before || list_any (h k) (range_with_len 0 0)) (range_with_len 0 n)
below_none h n before long =
    flags_are before n long ∙ (λ i. map (λ k. sym (or_false (flag_at k before)) i) (range_with_len 0 n))

or_both : (a b c : Bool) → ((a || b) || c) ≡ (a || (b || c))
or_both true b c = refl
or_both false b c = refl

pub below_step : (rows : List (List Bool)) (rights row before made more : List Bool) (n from at : ℕ) → NextFlag rights from at →
    slice_get rows at ≡ Some row → length row ≡ n →
    made ≡ map (λ k. flag_at k before || list_any (λ j. flag_at j rights && bit_at rows j k) (range_with_len 0 from)) (range_with_len 0 n) →
    more ≡ zip2 (λ a b. a || b) made row →
    more ≡ map (λ k. flag_at k before || list_any (λ j. flag_at j rights && bit_at rows j k) (range_with_len 0 (at + 1))) (range_with_len 0 n)
below_step rows rights row before made more n from at next there long so_far put =
    put ∙ (λ i. zip2 (λ a b. a || b) (so_far i) (flags_are row n long i))
    ∙ zip2-map (λ a b. a || b) (λ k. flag_at k before || list_any (h k) (range_with_len 0 from)) (λ k. flag_at k row) (range_with_len 0 n)
    ∙ (λ i. map (λ k. here k i) (range_with_len 0 n))
  where
    h : ℕ → ℕ → Bool
    h k = λ j. flag_at j rights && bit_at rows j k

    bit : (k : ℕ) → flag_at k row ≡ h k at
    bit k =
        unwrap_or-slice_get row k false ∙ ap (λ r. get_or r k false) (sym (get_or_from_slice_get rows at row [] there))
        ∙ ap (λ b. b && bit_at rows at k) (sym next.set)

    one : (k : ℕ) → (list_any (h k) (range_with_len 0 from) || flag_at k row) ≡ list_any (h k) (range_with_len 0 (at + 1))
    one k =
        ap (λ b. list_any (h k) (range_with_len 0 from) || b) (bit k)
        ∙ sym (one_any_more (h k) from at next.order (λ i low high. and_clear (flag_at i rights) (bit_at rows i k) (next.clear i low high)))

    here : (k : ℕ) → ((flag_at k before || list_any (h k) (range_with_len 0 from)) || flag_at k row)
        ≡ (flag_at k before || list_any (h k) (range_with_len 0 (at + 1)))
    here k =
        or_both (flag_at k before) (list_any (h k) (range_with_len 0 from)) (flag_at k row) ∙ ap (λ b. flag_at k before || b) (one k)

pub below_end : (rows : List (List Bool)) (lefts rights before made more : List Bool) (from : ℕ) → IsNext from rights None → from ≤ length rights →
    made ≡ map (λ k. flag_at k before || list_any (λ j. flag_at j rights && bit_at rows j k) (range_with_len 0 from)) (range_with_len 0 (length lefts)) →
    more ≡ zip2 (λ a b. a && b) made lefts → more ≡ with_below rows lefts rights before
below_end rows lefts rights before made more from none order so_far put =
    put ∙ (λ i. zip2 (λ a b. a && b) (so_far i) (flags_are lefts (length lefts) refl i))
    ∙ zip2-map (λ a b. a && b) (λ k. flag_at k before || list_any (h k) (range_with_len 0 from)) (λ k. flag_at k lefts) (range_with_len 0 (length lefts))
    ∙ (λ i. map (λ k. (flag_at k before || sym (same_any (h k) from (length rights) order
    (λ j low high. and_clear (flag_at j rights) (bit_at rows j k) (no_flag rights from none j low high))) i) && flag_at k lefts) (range_with_len 0 (length lefts)))
  where
    h : ℕ → ℕ → Bool
    h k = λ j. flag_at j rights && bit_at rows j k

-- ---- one stretch more

pub past_flag : (row : List Bool) (k : ℕ) → length row ≤ k → flag_at k row ≡ false
past_flag row k past = ap (λ o. unwrap_or o false) (slice_get_past row k past)

pub put_nothing : (made : List Tuple) (at : ℕ) (rights : List Bool) → flag_at (at + 1) rights ≡ false →
    made ≡ made ++ map neighbours (filter (λ k. flag_at (k + 1) rights) (at ∷ []))
put_nothing made at rights none =
    sym (ap (λ b. made ++ map neighbours (cond b (at ∷ []) [])) none ∙ append-nil made)

-- a row of rows of one length
pub row_long : (rows : List (List Bool)) (at : ℕ) (row : List Bool) (n : ℕ) → All (λ r. length r ≡ n) rows → slice_get rows at ≡ Some row →
    length row ≡ n
row_long rows at row n wide there =
    ap length (sym (get_or_from_slice_get rows at row [] there))
    ∙ All-get_or (λ r. length r ≡ n) rows at [] (slice_get_within rows at row there) wide

-- so many bits are put together
pub made_long : (rows : List (List Bool)) (rights before : List Bool) (from n : ℕ) →
    length (map (λ k. flag_at k before || list_any (λ j. flag_at j rights && bit_at rows j k) (range_with_len 0 from)) (range_with_len 0 n)) ≡ n
made_long rows rights before from n =
    length-map-range_with_len (λ k. flag_at k before || list_any (λ j. flag_at j rights && bit_at rows j k) (range_with_len 0 from)) 0 n
