-- The rows of a level, of which some are asked for, one after another.
use Rattle.std.proofs.Common.{◌≡◌, ℕ, ◌+◌, ◌<◌, ◌≤◌, ◌⊎◌, inl, inr, Bool, true, false, List, [], ◌∷◌, ◌++◌, length, map, get_or, sym, ap, subst, ◌∙◌, arith, Some, Result, Ok, Err, IfOk}
use Rattle.std.specs.List.{slice_get}
use Rattle.std.proofs.lemmas.Bool.{cases_lt}
use Rattle.std.proofs.lemmas.List.{length-map, length-append, get_or-map, get_or_past, get_or_push, get_or_append_left}
use Rattle.std.proofs.lemmas.Option.{get_or_from_slice_get}
use Rattle.bundle_state.specs.Bundle.{BundleParts}
use Rattle.hier_closure.specs.Dominance.{dominates, ids_at, closure_row, closure_of}
use Rattle.hier_closure.specs.Inner.Asked.{AgreeWhere}
use Rattle.hier_closure.specs.Inner.Stands.{AreStandsIn, id_at, stand_id, cut}
use Rattle.hier_closure.specs.declared.stands.LevelStands.{LevelStands}
use Rattle.hier_closure.specs.declared.stands.Stand.{Stand}
use Rattle.hier_closure.proofs.Joins.{children_row}
use Rattle.hier_closure.proofs.Places.{own_of, row_whole}

-- the same of the first rows
pub record AgreeTo (asked : List Bool) (rows made : List (List Bool)) (n : ℕ) : Type 0 where
  pub count : length made ≡ n
  pub wide : (k : ℕ) → k < n → length (get_or made k []) ≡ length (get_or rows k [])
  pub each : (k : ℕ) → k < n → get_or asked k false ≡ true → get_or made k [] ≡ get_or rows k []

pub agree_more : (asked : List Bool) (rows made more : List (List Bool)) (row : List Bool) (n : ℕ) → AgreeTo asked rows made n →
    length row ≡ length (get_or rows n []) → (get_or asked n false ≡ true → row ≡ get_or rows n []) → more ≡ made ++ row ∷ [] →
    AgreeTo asked rows more (n + 1)
agree_more asked rows made more row n so wide is put = record {
  count = ap length put ∙ length-append made (row ∷ []) ∙ (let long = so.count in omega arith);
  wide = λ k low. by_wide k (cases_lt k n) low;
  each = λ k low. by_each k (cases_lt k n) low;
}
  where
    before : (k : ℕ) → k < n → get_or more k [] ≡ get_or made k []
    before k low =
        ap (λ rs. get_or rs k []) put ∙ get_or_append_left made (row ∷ []) [] k (let long = so.count in omega arith)

    last : (k : ℕ) → k ≡ n → get_or more k [] ≡ row
    last k here = ap (λ rs. get_or rs k []) put ∙ get_or_push made row [] k (so.count ∙ sym here)

    by_wide : (k : ℕ) → (k < n) ⊎ (n ≤ k) → k < n + 1 → length (get_or more k []) ≡ length (get_or rows k [])
    by_wide k (inl low) within = ap length (before k low) ∙ so.wide k low
    by_wide k (inr high) within =
        let here : k ≡ n = omega arith in
        ap length (last k here) ∙ wide ∙ ap (λ i. length (get_or rows i [])) (sym here)

    by_each : (k : ℕ) → (k < n) ⊎ (n ≤ k) → k < n + 1 → get_or asked k false ≡ true → get_or more k [] ≡ get_or rows k []
    by_each k (inl low) within set = before k low ∙ so.each k low set
    by_each k (inr high) within set =
        let here : k ≡ n = omega arith in
        last k here ∙ is (ap (λ i. get_or asked i false) (sym here) ∙ set) ∙ ap (λ i. get_or rows i []) (sym here)

pub agree_whole : (asked : List Bool) (rows made : List (List Bool)) (n : ℕ) → AgreeTo asked rows made n → n ≡ length rows →
    AgreeWhere asked rows made
agree_whole asked rows made n so all = record {
  count = so.count ∙ all;
  wide = λ k within. so.wide k (let long = so.count in omega arith);
  each = λ k set. by k set (cases_lt k n);
}
  where
    by : (k : ℕ) → get_or asked k false ≡ true → (k < n) ⊎ (n ≤ k) → get_or made k [] ≡ get_or rows k []
    by k set (inl low) = so.each k low set
    by k set (inr high) =
        get_or_past made k [] (let long = so.count in omega arith) ∙ sym (get_or_past rows k [] (omega arith))

-- rows that are all the same
pub agree_same : (asked : List Bool) (rows made : List (List Bool)) → made ≡ rows → AgreeWhere asked rows made
agree_same asked rows made is = record {
  count = ap length is;
  wide = λ k within. ap (λ rs. length (get_or rs k [])) is;
  each = λ k set. ap (λ rs. get_or rs k []) is;
}

pub agree_copy : {E : Type 0} (asked : List Bool) (rows kept : List (List Bool)) (r : Result (List (List Bool)) E) →
    IfOk r (λ made. made ≡ kept) → kept ≡ rows → IfOk r (λ made. AgreeWhere asked rows made)
agree_copy asked rows kept (Ok made) is same = agree_same asked rows made (is ∙ same)
agree_copy asked rows kept (Err e) is same = tt

pub agree_as : {E : Type 0} (asked : List Bool) (rows kept : List (List Bool)) (r : Result (List (List Bool)) E) →
    IfOk r (λ made. made ≡ kept) → AgreeWhere asked rows kept → IfOk r (λ made. AgreeWhere asked rows made)
agree_as asked rows kept (Ok made) is agree = subst (AgreeWhere asked rows) (sym is) agree
agree_as asked rows kept (Err e) is agree = tt

-- ---- the row of an item

pub rows_long : (bundle : BundleParts) (lower level : ℕ) → length (closure_of bundle lower level) ≡ length (ids_at bundle.levels level)
rows_long bundle lower level = length-map (ids_at bundle.levels level) (closure_row bundle.links (ids_at bundle.levels lower))

row_is : (bundle : BundleParts) (lower level n : ℕ) → n < length (ids_at bundle.levels level) →
    get_or (closure_of bundle lower level) n []
    ≡ closure_row bundle.links (ids_at bundle.levels lower) (get_or (ids_at bundle.levels level) n 0)
row_is bundle lower level n within =
    get_or-map (closure_row bundle.links (ids_at bundle.levels lower)) (ids_at bundle.levels level) n 0 [] within

pub row_more : (bundle : BundleParts) (lower level n : ℕ) (all : List LevelStands) (own : LevelStands) (children : List Stand)
    (asked : List Bool) (is_asked : Bool) (row : List Bool) (made more : List (List Bool)) → AreStandsIn bundle all →
    level < length bundle.levels → own ≡ get_or all level own → n < length (ids_at bundle.levels level) → children ≡ cut own n →
    slice_get asked n ≡ Some is_asked → length row ≡ length (ids_at bundle.levels lower) →
    (is_asked ≡ true → row ≡ children_row bundle lower (map (stand_id bundle) children)) →
    AgreeTo asked (closure_of bundle lower level) made n → more ≡ made ++ row ∷ [] →
    AgreeTo asked (closure_of bundle lower level) more (n + 1)
row_more bundle lower level n all own children asked is_asked row made more stands within is here are at wide whole so put =
    agree_more asked (closure_of bundle lower level) made more row n so
    (wide
    ∙ sym (ap length (row_is bundle lower level n here)
    ∙ length-map (ids_at bundle.levels lower) (dominates bundle.links (get_or (ids_at bundle.levels level) n 0))))
    (λ set. row_whole bundle lower (get_or (ids_at bundle.levels level) n 0) children row
    (ap (map (id_at bundle)) are ∙ (own_of bundle all level own stands within is).each n here)
    (whole (sym (get_or_from_slice_get asked n is_asked false at) ∙ set))
    ∙ sym (row_is bundle lower level n here))
    put
