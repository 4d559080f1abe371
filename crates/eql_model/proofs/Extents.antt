-- The samples of the items below a stretch, and the ends of a stretch.
use Rattle.std.proofs.Common.{◌≡◌, ℕ, ◌+◌, ◌-◌, ◌<◌, ◌≤◌, Bool, true, ◌&&◌, List, length, take, drop, map, get_or, None, Some, sym, ap, subst, ◌∙◌, arith, nat_lt, nat_le}
use Rattle.std.specs.List.{filter, list_any}
use Rattle.std.specs.List.Sorted.{IsNonDecreasingBy}
use Rattle.std.proofs.lemmas.Bool.Decides.{nat_tests}
use Rattle.std.proofs.lemmas.List.{take-map, drop-map, get_or-map, length-map}
use Rattle.level_items.specs.declared.items.Item.{Item}
use Rattle.level_items.specs.Levels.{ids_of, items_at}
use Rattle.bundle_state.specs.Bundle.{BundleParts}
use Rattle.hier_closure.specs.Dominance.{dominates, ids_at, closure_of}
use Rattle.eql_rows.specs.declared.span.Span.{Span}
use Rattle.eql_tuples.specs.Tuples.{from_to, stretch, fits_in}
use Rattle.eql_model.specs.Inner.Joins.{is_under}
use Rattle.eql_tuples.specs.Shown.{bare}
use Rattle.eql_rows.specs.Spans.{IsStretchIn}
use Rattle.eql_rows.specs.Rows.{items_of, extent, end_to_end}
use Rattle.eql_model.specs.Rows.{items_below, is_below_some}
use Rattle.eql_model.specs.Inner.Ends.{AreEnds}
use Rattle.eql_model.proofs.Between.{ids_are, rows_count, wide_exit}
use Rattle.eql_model.proofs.Covers.{under_is}
use Rattle.eql_rows.proofs.InOrder.{start, end, none_kept, extent_is}
use Rattle.eql_rows.proofs.EndToEnd.{ends_are}
use Rattle.eql_model.proofs.MadeRows.{no_item}
use Rattle.eql_model.proofs.RowEnds.{under_within}

-- ---- what is below a result

fits_bare : (n a b : ℕ) → a ≤ b → b < n → nat_le a b && nat_lt b n ≡ true
fits_bare n a b rises within = grind (arith, nat_tests)

ids_count_of : (b : BundleParts) (level : ℕ) → length (ids_at b.levels level) ≡ length (items_at b.levels level)
ids_count_of b level = ap length (ids_are b.levels level) ∙ length-map (items_at b.levels level) (λ (i : Item). i.id.0)

pub span_fits : (b : BundleParts) (span : Span) → IsStretchIn b span →
    fits_in (length (ids_at b.levels span.level)) (bare span.first span.last) ≡ true
span_fits b span there =
    subst (λ (n : ℕ). fits_in n (bare span.first span.last) ≡ true) (sym (ids_count_of b span.level))
    (fits_bare (length (items_at b.levels span.level)) span.first span.last there.rises there.within)

pub span_fits_rows : (b : BundleParts) (span : Span) (time : ℕ) (rows : List (List Bool)) → IsStretchIn b span →
    rows ≡ closure_of b time span.level → fits_in (length rows) (bare span.first span.last) ≡ true
span_fits_rows b span time rows there made =
    subst (λ (n : ℕ). fits_in n (bare span.first span.last) ≡ true) (sym (ap length made ∙ rows_count b time span.level))
    (fits_bare (length (items_at b.levels span.level)) span.first span.last there.rises there.within)

pub stretch_ids : (items : List Item) (first last : ℕ) → from_to (ids_of items) first last ≡ ids_of (from_to items first last)
stretch_ids items first last =
    ap (take (last + 1 - first)) (drop-map (λ (i : Item). i.id.0) first items)
    ∙ take-map (λ (i : Item). i.id.0) (last + 1 - first) (drop first items)

pub below_is : (b : BundleParts) (span : Span) (time at : ℕ) (d : Item) → IsStretchIn b span → at < length (items_at b.levels time) →
    is_under (closure_of b time span.level) (bare span.first span.last) at
    ≡ is_below_some b.links (ids_of (items_of b span)) (get_or (items_at b.levels time) at d)
below_is b span time at d there here =
    under_is b.links (ids_at b.levels span.level) (ids_at b.levels time) (bare span.first span.last) at (span_fits b span there)
    (let n = ids_count_of b time in omega arith)
    ∙ (λ i. list_any (λ a. dominates b.links a (id_here i)) (uppers i))
  where
    id_here : get_or (ids_at b.levels time) at 0 ≡ (get_or (items_at b.levels time) at d).id.0
    id_here = ap (λ ids. get_or ids at 0) (ids_are b.levels time) ∙ get_or-map (λ (i : Item). i.id.0) (items_at b.levels time) at d 0 here

    uppers : stretch (ids_at b.levels span.level) (bare span.first span.last) ≡ ids_of (items_of b span)
    uppers =
        ap (λ ids. from_to ids span.first span.last) (ids_are b.levels span.level)
        ∙ stretch_ids (items_at b.levels span.level) span.first span.last

-- ---- the ends of a stretch

-- ---- the samples of what is below a result

module _ (b : BundleParts) (span : Span) (time : ℕ) (items : List Item) (rows : List (List Bool)) (there : IsStretchIn b span)
    (are : items ≡ items_at b.levels time) (made : rows ≡ closure_of b time span.level) where
  abbrev is_below : Item → Bool
  is_below = is_below_some b.links (ids_of (items_of b span))

  abbrev is_set : ℕ → Bool
  is_set = is_under rows (bare span.first span.last)

  below_at : (at : ℕ) (d : Item) → at < length items → is_set at ≡ is_below (get_or items at d)
  below_at at d h =
      ap (λ rs. is_under rs (bare span.first span.last) at) made
      ∙ below_is b span time at d there (let same = ap length are in omega arith)
      ∙ ap (λ xs. is_below (get_or xs at d)) (sym are)

  set_within : (at : ℕ) → is_set at ≡ true → at < length items
  set_within at set =
      under_within rows (length items) (bare span.first span.last) at (wide_exit b span.level time rows items made are) set

  below_whole : extent (filter is_below items) ≡ extent (items_below b (Some time) span)
  below_whole = ap (λ xs. extent (filter is_below xs)) are

  pub ends_rise : (first last : ℕ) → AreEnds is_set (Some (first, last)) → first ≤ last
  ends_rise first last ends = (ends.2 first ends.0).1

  pub ends_within : (first last : ℕ) → AreEnds is_set (Some (first, last)) → last < length items
  ends_within first last ends = set_within last ends.1

  pub extent_answer : (first last : ℕ) (samples : ℕ × ℕ) → IsNonDecreasingBy start items → IsNonDecreasingBy end items →
      AreEnds is_set (Some (first, last)) → Some samples ≡ end_to_end (from_to items first last) →
      Some samples ≡ extent (items_below b (Some time) span)
  extent_answer first last samples starts ends bits are_ends =
      are_ends ∙ ends_are items first last no_item (ends_rise first last bits) (set_within last bits.1)
      ∙ sym (extent_is is_below first last no_item items starts ends (set_within first bits.0) (set_within last bits.1)
      (sym (below_at first no_item (set_within first bits.0)) ∙ bits.0) (sym (below_at last no_item (set_within last bits.1)) ∙ bits.1)
      (λ k h is. bits.2 k (below_at k no_item h ∙ is)))
      ∙ below_whole

  pub extent_none : AreEnds is_set None → None ≡ extent (items_below b (Some time) span)
  extent_none none =
      sym (ap extent (none_kept is_below items no_item (λ k h. sym (below_at k no_item h) ∙ none k))) ∙ below_whole
