-- Rows and their entries.
use Rattle.std.proofs.Common.{◌≡◌, ℕ, ◌+◌, ◌<◌, Bool, true, List, [], ◌∷◌, ◌++◌, length, drop, map, get_or, sym, ap, ◌∙◌, Some, arith}
use Rattle.std.specs.List.{slice_get, range_with_len, list_all, list_any}
use Rattle.std.proofs.lemmas.Bool.{and_parts, ltb-true}
use Rattle.std.proofs.lemmas.List.FromFn.{map-range_with_len_more, get_or-map-range_with_len, length-map-range_with_len}
use Rattle.std.proofs.lemmas.Option.{get_or_from_slice_get}
use Rattle.db_config.specs.declared.parts.LinkDef.{LinkDef}
use Rattle.db_config.specs.Above.{is_above}
use Rattle.db_config.specs.Inner.Above.{above_row, above_rows}
use Rattle.db_config.specs.Valid.{is_in_range}

-- one element more
pub table_more : {X : Type 0} (f : ℕ → X) (n : ℕ) (xs : List X) (x : X) → xs ≡ map f (range_with_len 0 n) → x ≡ f n →
    xs ++ x ∷ [] ≡ map f (range_with_len 0 (n + 1))
table_more f n xs x is here = ap (λ ys. ys ++ x ∷ []) is ∙ ap (λ y. map f (range_with_len 0 n) ++ y ∷ []) here ∙ sym (map-range_with_len_more f 0 n n (omega arith))

pub table_step : {X : Type 0} (f : ℕ → X) (n : ℕ) (xs new : List X) (x : X) → xs ≡ map f (range_with_len 0 n) → x ≡ f n → new ≡ xs ++ x ∷ [] →
    new ≡ map f (range_with_len 0 (n + 1))
table_step f n xs new x is here made = made ∙ table_more f n xs x is here

-- the number of rows, and of the entries of one
pub rows_len : (defs : List LinkDef) (count : ℕ) (rows : List (List Bool)) → rows ≡ above_rows defs count → length rows ≡ count
rows_len defs count rows is = ap length is ∙ length-map-range_with_len (above_row defs count) 0 count

-- the row at a place
pub row_at : (defs : List LinkDef) (count upper : ℕ) (rows : List (List Bool)) (row : List Bool) → rows ≡ above_rows defs count → upper < count →
    slice_get rows upper ≡ Some row → row ≡ above_row defs count upper
row_at defs count upper rows row is within here =
    sym (get_or_from_slice_get rows upper row row here) ∙ ap (λ rs. get_or rs upper row) is
    ∙ get_or-map-range_with_len (above_row defs count) 0 count upper upper row within (omega arith)

pub row_len : (defs : List LinkDef) (count upper : ℕ) (row : List Bool) → row ≡ above_row defs count upper → length row ≡ count
row_len defs count upper row is = ap length is ∙ length-map-range_with_len (is_above defs upper) 0 count

-- the entry at a place
pub entry_at : (defs : List LinkDef) (count upper lower : ℕ) (row : List Bool) (b : Bool) → row ≡ above_row defs count upper → lower < count →
    slice_get row lower ≡ Some b → b ≡ is_above defs upper lower
entry_at defs count upper lower row b is within here =
    sym (get_or_from_slice_get row lower b b here) ∙ ap (λ bs. get_or bs lower b) is
    ∙ get_or-map-range_with_len (is_above defs upper) 0 count lower lower b within (omega arith)

-- the first definition of a list that is in range
pub first_in_range : (count : ℕ) (d : LinkDef) (defs : List LinkDef) → list_all (is_in_range count) (d ∷ defs) ≡ true →
    (d.upper < count) × (d.lower < count) × (list_all (is_in_range count) defs ≡ true)
first_in_range count d defs all =
    let parts = and_parts (is_in_range count d) (list_all (is_in_range count) defs) all in
    let ends = and_parts _ _ parts.0 in
    (ltb-true _ _ ends.0, ltb-true _ _ ends.1, parts.1)

-- the definitions behind a place are in range, and lead round where some of all do
pub record IsTested (defs : List LinkDef) (count place : ℕ) : Type 0 where
  pub rest : list_any (λ d. is_above defs d.upper d.upper) (drop place defs) ≡ list_any (λ d. is_above defs d.upper d.upper) defs
  pub range : list_all (is_in_range count) (drop place defs) ≡ true
