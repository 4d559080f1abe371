-- What the items of a row show, and that nothing shows nothing.
use Rattle.std.proofs.Common.{◌≡◌, ℕ, Bool, true, false, List, [], ◌∷◌, length, map, Option, Some, None, refl, sym, ap, ◌∙◌}
use Rattle.std.specs.Prelude.{unwrap_or}
use Rattle.std.specs.List.{filter, flat_map, list_all, range_with_len}
use Rattle.std.specs.Option.{is_some}
use Rattle.db_config.specs.declared.parts.AttributePlace.{AttributePlace}
use Rattle.db_config.specs.declared.parts.ConfigParts.{ConfigParts}
use Rattle.bundle_state.specs.Bundle.{BundleParts}
use Rattle.eql_resolve.specs.Asked.{AskedQuery, first_place, is_marked, mark_place, shown_place}
use Rattle.eql_resolve.proofs.Marks.{mark_some}
use Rattle.eql_rows.specs.declared.span.Span.{Span}
use Rattle.eql_rows.specs.Inner.Flags.{flag_at}
use Rattle.eql_model.specs.Meaning.{has_too_many, single}
use Rattle.eql_tuples.specs.Shown.{bare, shown}
use Rattle.eql_model.specs.Results.{results}
use Rattle.eql_rows.specs.Spans.{span_at}
use Rattle.eql_rows.specs.Inner.Spans.{row_spans}
use Rattle.eql_tuples.specs.Sets.{each_once}
use Rattle.eql_match.specs.Inner.Found.{items_of, tuples_in, AreFoundFor}
use Rattle.eql_match.specs.declared.found.Found.{Found}
use Rattle.eql_match.specs.Inner.Shown.{is_bare}
use Rattle.eql_match.specs.declared.found.Found.TheVariants.{Items}
use Rattle.eql_match.proofs.Bare.{show_themselves}
use Rattle.eql_match.proofs.ByRows.{places_sorted}

all_bare : (ks : List ℕ) → list_all is_bare (map (single false) ks) ≡ true
all_bare [] = refl
all_bare (k ∷ ks) = all_bare ks

items_shown : (row : List Bool) → items_of row ≡ each_once (flat_map (shown false) (items_of row))
items_shown row =
    show_themselves false (items_of row) (places_sorted (single false) (λ k. refl) (λ k. flag_at k row) 0 (length row)) refl
    (all_bare (filter (λ k. flag_at k row) (range_with_len 0 (length row))))

spans_each : (place : AttributePlace) (ks : List ℕ) → map (λ k. span_at place (bare k k)) ks ≡ map (span_at place) (map (single false) ks)
spans_each place [] = refl
spans_each place (k ∷ ks) = ap (λ spans. span_at place (bare k k) ∷ spans) (spans_each place ks)

pub items_match : (c : ConfigParts) (b : BundleParts) (q : AskedQuery) (place : AttributePlace) (row : List Bool) (spans : List Span) →
    place ≡ shown_place q → AreFoundFor (Items row) c b q → spans ≡ row_spans place row →
    (spans ≡ results c b q) × (has_too_many c b q ≡ false)
items_match c b q place row spans at found is =
    let mark : false ≡ is_marked q = sym found.2.1 in (
      is ∙ ap (λ p. row_spans p row) at
          ∙ spans_each (shown_place q) (filter (λ k. flag_at k row) (range_with_len 0 (length row)))
          ∙ ap (map (span_at (shown_place q))) (items_shown row)
          ∙ (λ i. map (span_at (shown_place q)) (each_once (flat_map (shown (mark i)) (found.0 i)))),
      found.1,
    )

-- where nothing is found, nothing is shown
pub nothing_matches : (c : ConfigParts) (b : BundleParts) (q : AskedQuery) (found : Found) (spans : List Span) → tuples_in found ≡ [] →
    AreFoundFor found c b q → spans ≡ [] → (spans ≡ results c b q) × (has_too_many c b q ≡ false)
nothing_matches c b q found spans nothing finds none = (
  none ∙ ap (λ ts. map (span_at (shown_place q)) (each_once (flat_map (shown (is_marked q)) ts))) (sym nothing ∙ finds.0),
  finds.1,
)

none_shown : (mark : Option AttributePlace) (first : AttributePlace) → is_some mark ≡ false → first ≡ unwrap_or mark first
none_shown None first unmarked = refl
none_shown (Some place) first unmarked = cc

-- a query without a mark shows the attribute of its first condition
pub first_shown : (q : AskedQuery) → is_marked q ≡ false → first_place q ≡ shown_place q
first_shown q unmarked = none_shown (mark_place q) (first_place q) (mark_some q ∙ unmarked)
