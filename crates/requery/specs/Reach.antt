-- Which stretch a result reaches in one bundle (EMU-SDMS Manual, "The EMU Query Language (EQL)":
-- `requery_hier` and `requery_seq`).
use Rattle.std.specs.Prelude.{ℕ, ◌+◌, ◌-◌, Bool, ◌&&◌, ◌||◌, ◌==◌, List, [], ◌∷◌, length, nat_le, get_or, Option, None, Some, option_map, if◌then◌else◌}
use Rattle.std.specs.List.{filter, list_any, range_with_len}
use Rattle.level_items.specs.Levels.{ids_of, items_at}
use Rattle.link_graph.specs.declared.link.Link.{Link}
use Rattle.bundle_state.specs.Bundle.{BundleParts}
use Rattle.hier_closure.specs.Dominance.{dominates, ids_at}
use Rattle.eql_tuples.specs.declared.tuple.Tuple.{Tuple}
use Rattle.eql_rows.specs.declared.span.Span.{Span}
use Rattle.eql_tuples.specs.Shown.{bare}
use Rattle.eql_rows.specs.Spans.{span_at}
use Rattle.eql_rows.specs.Rows.{items_of, least, greatest}
use Rattle.requery.specs.declared.target.Shift.{Shift}
use Rattle.requery.specs.declared.target.Target.{Target}
use Rattle.requery.specs.declared.target.Target.TheVariants.{Level, Along}

-- ---- to another level

-- an item dominates some of these, or some of these dominates it
abbrev pub is_kin : List Link → List ℕ → ℕ → Bool
is_kin links ids x = list_any (λ r. dominates links x r || dominates links r x) ids

-- the positions of the items of a level that dominate some item of a result or are dominated by one
abbrev pub kin_at : BundleParts → ℕ → Span → List ℕ
kin_at b level span =
    filter (λ k. is_kin b.links (ids_of (items_of b span)) (get_or (ids_at b.levels level) k 0))
    (range_with_len 0 (length (ids_at b.levels level)))

-- the stretch from the least of some positions to the greatest; none where there is no position
abbrev pub whole_stretch : List ℕ → Option Tuple
whole_stretch [] = None
whole_stretch (p ∷ ps) = Some (bare (least p ps) (greatest p ps))

-- the stretch of a result on a level: on its own level that of the result itself
abbrev pub stretch_on : BundleParts → ℕ → Span → Option Tuple
stretch_on b level span =
    if level == span.level then Some (bare span.first span.last) else whole_stretch (kin_at b level span)

-- ---- along the level

-- the position from which a result is moved: that of its last item, or of its first one
abbrev pub origin : Shift → Span → ℕ
origin shift span = if shift.from_end then span.last else span.first

-- how far right of the level's start the stretch begins; it has to be so far right at least as it goes left
abbrev pub moved_first : Shift → Span → ℕ
moved_first shift span = origin shift span + shift.right - shift.left

-- the stretch has an item, and does not leave a level of so many items
abbrev pub stays_in : ℕ → Shift → Span → Bool
stays_in count shift span =
    nat_le 1 shift.length && nat_le shift.left (origin shift span + shift.right)
    && nat_le (moved_first shift span + shift.length) count

-- a result moved along a level of so many items; none where the stretch leaves the level
abbrev pub moved : ℕ → Shift → Span → Option Span
moved count shift span =
    if stays_in count shift span
    then Some (record {
      level = span.level;
      attribute = span.attribute;
      first = moved_first shift span;
      last = moved_first shift span + shift.length - 1;
    })
    else None

-- ---- both

-- what a result reaches, which shows the attribute of the target, or along the level the result's
abbrev pub reach : BundleParts → Target → Span → Option Span
reach b (Level place) span = option_map (span_at place) (stretch_on b place.level span)
reach b (Along shift) span = moved (length (items_at b.levels span.level)) shift span
