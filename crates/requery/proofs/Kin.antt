-- The stretches of the kin of items, by rows of dominance.
use Rattle.std.proofs.Common.{◌≡◌, ℕ, ◌+◌, ◌-◌, ◌<◌, ◌≤◌, Bool, true, false, ◌||◌, List, [], ◌∷◌, length, get_or, Option, None, Some, refl, sym, ap, ◌∙◌, arith}
use Rattle.std.specs.Prelude.{All, map, unwrap_or}
use Rattle.std.specs.List.{filter, list_any, range_with_len, slice_get}
use Rattle.std.proofs.lemmas.List.{get_or-map, length-map}
use Rattle.std.proofs.lemmas.Option.{get_or_from_slice_get, unwrap_or-slice_get}
use Rattle.eql_tuples.specs.declared.tuple.Tuple.{Tuple}
use Rattle.eql_rows.specs.Inner.Flags.{flag_at}
use Rattle.eql_model.specs.Inner.Joins.{bit_at}
use Rattle.requery.specs.Reach.{whole_stretch}
use Rattle.requery.specs.Inner.Ways.{AreWidened, AreWidenedBy, AreKinStretches, kin_stretch, row_stretch, union, union_over, one_if}
use Rattle.requery.proofs.Unions.{any_test, either_test, one_position, union_assoc, union_none}

flag_is_bit : (rows : List (List Bool)) (at : ℕ) (row : List Bool) (i : ℕ) → slice_get rows at ≡ Some row → flag_at i row ≡ bit_at rows at i
flag_is_bit rows at row i there =
    unwrap_or-slice_get row i false ∙ ap (λ r. get_or r i false) (sym (get_or_from_slice_get rows at row [] there))

-- no row has widened the stretches yet
pub no_row : (rows : List (List Bool)) (old : List (Option Tuple)) → AreWidenedBy rows 0 old old
no_row rows old = record { count_is = refl; each = λ i h. sym (union_none (get_or old i None)) }

-- one row more
pub row_more : (rows : List (List Bool)) (at next : ℕ) (row : List Bool) (old now new : List (Option Tuple)) → next ≡ at + 1 → slice_get rows at ≡ Some row →
    AreWidenedBy rows at old now → AreWidened row at now new → AreWidenedBy rows next old new
row_more rows at next row old now new is there so more = record {
  count_is = more.count ∙ so.count_is;
  each = λ i h.
      let before = whole_stretch (filter (λ k. bit_at rows k i) (range_with_len 0 at)) in
      more.each i (let n = so.count_is in omega arith)
      ∙ (λ j. union (so.each i h j) (one_if (flag_is_bit rows at row i there j) at))
      ∙ union_assoc (get_or old i None) before (one_if (bit_at rows at i) at)
      ∙ ap (union (get_or old i None)) (sym (one_position (λ k. bit_at rows k i) at next is));
}

below_is : (down : List (List Bool)) (i width : ℕ) → i < length down → All (λ row. length row ≡ width) down →
    get_or (map row_stretch down) i None ≡ whole_stretch (filter (λ k. bit_at down i k) (range_with_len 0 width))
below_is down i width h wide =
    get_or-map row_stretch down i [] None h
    ∙ (λ j. whole_stretch (filter (λ k. unwrap_or-slice_get (get_or down i []) k false j) (range_with_len 0 (wide i [] h j))))

-- all rows
pub kin_made : (down up : List (List Bool)) (width count : ℕ) (below made : List (Option Tuple)) → width ≡ length up → count ≡ width →
    All (λ row. length row ≡ width) down → below ≡ map row_stretch down → AreWidenedBy up count below made → AreKinStretches down up made
kin_made down up width count below made w n wide are so = record {
  count = so.count_is ∙ ap length are ∙ length-map down row_stretch;
  each = λ i h.
      so.each i (let c : length below ≡ length down = ap length are ∙ length-map down row_stretch in omega arith)
      ∙ (λ j. union ((ap (λ xs. get_or xs i None) are ∙ below_is down i width h wide) j)
      (whole_stretch (filter (λ k. bit_at up k i) (range_with_len 0 (n j)))))
      ∙ either_test (bit_at down i) (λ k. bit_at up k i) (range_with_len 0 width)
      ∙ ap (λ m. kin_stretch down up m i) w;
}
