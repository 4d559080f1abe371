-- Queries that cannot have too many tuples, and what a query finds of which the left part finds nothing.
use Rattle.std.proofs.Common.{◌≡◌, ℕ, Bool, true, false, not, List, [], length, map, Option, Some, None, Ok, refl, sym, ap, ◌∙◌}
use Rattle.std.specs.Prelude.{is_some}
use Rattle.std.specs.List.{list_any}
use Rattle.std.proofs.lemmas.List.{map-id}
use Rattle.db_config.specs.declared.parts.ConfigParts.{ConfigParts}
use Rattle.bundle_state.specs.Bundle.{BundleParts}
use Rattle.bundle_state.specs.Valid.{KeepsBundleRules}
use Rattle.hier_closure.specs.Dominance.{ids_at, closure_of}
use Rattle.eql_resolve.specs.Asked.{AskedQuery, AskedTerm, terms, sequence, dominance, is_marked_term, level_of}
use Rattle.level_items.specs.declared.items.Item.{Item}
use Rattle.level_items.specs.Levels.{items_at}
use Rattle.eql_tuples.specs.declared.tuple.Tuple.{Tuple}
use Rattle.eql_tuples.specs.Sets.{is_over}
use Rattle.eql_tuples.specs.Tuples.{follows, both, left_with, joined}
use Rattle.eql_columns.specs.Inner.Rows.{all_bits}
use Rattle.eql_columns.proofs.Bits.{all_long}
use Rattle.lane_bits.specs.Inner.Row.{IsFirst}
use Rattle.eql_model.specs.Covers.{one_covers}
use Rattle.eql_model.specs.Inner.Meaning.{met_row}
use Rattle.eql_model.specs.Meaning.{has_too_many, single, singles, tuples}
use Rattle.eql_model.proofs.Fitting.{conjunction_finds}
use Rattle.eql_match.specs.Inner.Few.{AreFewAlways, IsRowAlways}
use Rattle.eql_match.specs.Inner.Found.{above_some, followed, items_of, tuples_in, with_below, AreFoundFor}
use Rattle.eql_match.specs.declared.found.Found.{Found}
use Rattle.eql_match.specs.declared.found.Found.TheVariants.{Items, Tuples}
use Rattle.eql_match.proofs.ByRows.{put_together}
use Rattle.eql_match.proofs.Ends.{none_set}
use Rattle.eql_match.proofs.FoundBy.{conjunction_is, dominance_of_rows, none_of_three, sequence_of_rows}
use Rattle.eql_match.proofs.FoundWhere.{conjunction_tuples, found_exit}
use Rattle.eql_match.proofs.RowsBetween.{row_few}

-- ---- queries that find items

row_of_terms : (ts : List AskedTerm) → list_any is_marked_term ts ≡ false → IsRowAlways (terms ts)
row_of_terms ts unmarked c b rules =
    (row, conjunction_is c b ts (level_of (terms ts)) false (Items row) refl (sym unmarked) rules same (all_long (length items) rows, refl))
  where
    items : List Item
    items = items_at b.levels (level_of (terms ts))

    rows : List (List Bool)
    rows = map (λ t. met_row c b (level_of (terms ts)) t) ts

    row : List Bool
    row = all_bits (length items) rows

    same : items_of row ≡ singles c b ts 0 items
    same =
        conjunction_tuples c b (level_of (terms ts)) (λ t. t) ts rows items false (Ok (Items row)) refl refl
        (sym unmarked ∙ ap (list_any is_marked_term) (sym (map-id ts)))
        (found_exit false rows row (length items) items (Ok (Items row)) refl refl refl)
        ∙ ap (λ xs. singles c b xs 0 items) (map-id ts)

pub row_where_unmarked : (ts : List AskedTerm) (marked : Bool) → marked ≡ list_any is_marked_term ts → not marked ≡ true →
    IsRowAlways (terms ts)
row_where_unmarked ts true is bare = absurd cc
row_where_unmarked ts false is bare = row_of_terms ts (sym is)

pub row_of_dominance : (p q : AskedQuery) → IsRowAlways p → IsRowAlways q → IsRowAlways (dominance p q)
row_of_dominance p q left right c b rules =
    let l = left c b rules in
    let r = right c b rules in
    let down : List (List Bool) = closure_of b (level_of q) (level_of p) in
    let up : List (List Bool) = closure_of b (level_of p) (level_of q) in
    let above : List Bool = above_some down l.0 r.0 in
    let made : List Bool = with_below up l.0 r.0 above in (
      made,
      dominance_of_rows c b p q (level_of p) (level_of q) l.0 r.0 made refl refl l.1 r.1
          (row_few b (level_of p) (length l.0) rules l.1.2.0) (put_together down up l.0 r.0 above made refl refl),
    )

-- ---- queries without too many tuples

pub few_terms : (ts : List AskedTerm) → AreFewAlways (terms ts)
few_terms ts c b rules = (conjunction_finds c b ts (level_of (terms ts)) (tuples c b (terms ts)) refl rules refl).1

pub few_sequence : (p q : AskedQuery) → IsRowAlways p → IsRowAlways q → AreFewAlways (sequence p q)
few_sequence p q left right c b rules =
    let l = left c b rules in
    let r = right c b rules in
    (sequence_of_rows c b p q l.0 r.0 (followed l.0 r.0) l.1 r.1 (row_few b (level_of p) (length l.0) rules l.1.2.0) refl).1

pub few_dominance : (p q : AskedQuery) → IsRowAlways p → IsRowAlways q → AreFewAlways (dominance p q)
few_dominance p q left right c b rules = (row_of_dominance p q left right c b rules).1.1

-- ---- nothing on the left

pub no_items : (row : List Bool) (first : Option ℕ) → IsFirst row first → is_some first ≡ false → items_of row ≡ []
no_items row None is none = sym (none_set (single false) row is)
no_items row (Some at) is none = absurd cc

none_joined : (goes : Tuple → Tuple → Bool) (make : Tuple → Tuple → Tuple) (ls rs : List Tuple) → ls ≡ [] → [] ≡ joined goes make ls rs
none_joined goes make ls rs none = ap (λ ts. joined goes make ts rs) (sym none)

pub nothing_follows : (c : ConfigParts) (b : BundleParts) (p q : AskedQuery) (found : Found) (made : List Tuple) → KeepsBundleRules b →
    tuples_in found ≡ [] → AreFewAlways q → AreFoundFor found c b p → made ≡ [] → AreFoundFor (Tuples made) c b (sequence p q)
nothing_follows c b p q found made rules none few left empty =
    let is : [] ≡ tuples c b (sequence p q) = none_joined follows both (tuples c b p) (tuples c b q) (sym left.0 ∙ none) in (
      empty ∙ is,
      none_of_three (has_too_many c b p) (has_too_many c b q) (is_over (tuples c b (sequence p q))) left.1 (few c b rules)
          (ap is_over (sym is)),
      tt,
    )

pub nothing_dominates : (c : ConfigParts) (b : BundleParts) (p q : AskedQuery) (found : Found) (made : List Tuple) → KeepsBundleRules b →
    tuples_in found ≡ [] → AreFewAlways q → AreFoundFor found c b p → made ≡ [] → AreFoundFor (Tuples made) c b (dominance p q)
nothing_dominates c b p q found made rules none few left empty =
    let is : [] ≡ tuples c b (dominance p q) =
    none_joined (one_covers b.links (ids_at b.levels (level_of p)) (ids_at b.levels (level_of q))) left_with (tuples c b p) (tuples c b q)
    (sym left.0 ∙ none) in (
      empty ∙ is,
      none_of_three (has_too_many c b p) (has_too_many c b q) (is_over (tuples c b (dominance p q))) left.1 (few c b rules)
          (ap is_over (sym is)),
      tt,
    )
