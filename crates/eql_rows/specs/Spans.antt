-- Results in a bundle: stretches of items on the level of the attribute that is shown of them (EMU-SDMS
-- Manual, "The EMU Query Language (EQL)": results).
use Rattle.std.specs.Prelude.{◌≡◌, ◌<◌, ◌≤◌, ℕ, List, All, length, IsSome}
use Rattle.db_config.specs.declared.parts.AttributePlace.{AttributePlace}
use Rattle.db_config.specs.declared.parts.ConfigParts.{ConfigParts}
use Rattle.db_config.specs.Lookups.{attribute_at, place_of}
use Rattle.bundle_state.specs.Bundle.{BundleParts}
use Rattle.eql_tuples.specs.declared.tuple.Tuple.{Tuple}
use Rattle.eql_rows.specs.declared.span.Span.{Span}
use Rattle.level_items.specs.Levels.{items_at}

-- a stretch on the level of an attribute, which is shown
abbrev pub span_at : AttributePlace → Tuple → Span
span_at place t =
    record { level = place.level; attribute = place.attribute; first = t.first; last = t.last }

-- the stretch of a result lies on its level, and has one item at least
pub record IsStretchIn (b : BundleParts) (span : Span) : Type 0 where
  pub rises : span.first ≤ span.last
  pub within : span.last < length (items_at b.levels span.level)

-- a result is there in a bundle: its attribute is, and its stretch lies on its level
pub record IsSpanIn (c : ConfigParts) (b : BundleParts) (span : Span) : Type 0 where
  pub attribute : IsSome (attribute_at (place_of span.level span.attribute) c.levels)
  pub stretch : IsStretchIn b span

-- the results of a query are there in the bundle, on the level of the results
abbrev pub AreThere : ConfigParts → BundleParts → ℕ → List Span → Type 0
AreThere c b level spans = All (λ span. IsSpanIn c b span × (span.level ≡ level)) spans
