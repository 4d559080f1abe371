-- The rows of a segment list, and when they are (EMU-SDMS Manual, "The EMU Query Language (EQL)": segment lists).
use Rattle.std.specs.Prelude.{ℕ, Bool, List, [], map, Option, Some, None}
use Rattle.std.specs.List.{filter, flat_map, list_any}
use Rattle.emu_names.specs.declared.kinds.LevelKind.{LevelKind}
use Rattle.emu_names.specs.declared.kinds.LevelKind.TheVariants as kinds
use Rattle.level_items.specs.declared.items.Item.{Item}
use Rattle.level_items.specs.Levels.{ids_of, items_at}
use Rattle.link_graph.specs.declared.link.Link.{Link}
use Rattle.db_config.specs.declared.parts.ConfigParts.{ConfigParts}
use Rattle.bundle_state.specs.Bundle.{BundleParts}
use Rattle.hier_closure.specs.Dominance.{dominates}
use Rattle.eql_resolve.specs.Asked.{AskedParts}
use Rattle.eql_rows.specs.declared.span.Span.{Span}
use Rattle.eql_rows.specs.declared.row.Row.{Row}
use Rattle.eql_model.specs.Meaning.{has_too_many}
use Rattle.eql_model.specs.Results.{results}
use Rattle.eql_rows.specs.Rows.{items_of, kind_of, end_to_end, extent, row_between}

-- ---- when it is

-- some of these items dominates an item
abbrev pub is_below_some : List Link → List ℕ → Item → Bool
is_below_some links uppers item = list_any (λ a. dominates links a item.id.0) uppers

-- the items of the time level that some item of the result dominates; none where there is no such level
abbrev pub items_below : BundleParts → Option ℕ → Span → List Item
items_below b None span = []
items_below b (Some time) span =
    filter (is_below_some b.links (ids_of (items_of b span))) (items_at b.levels time)

-- the first and the last sample of a result: those of its items, or on an ITEM level those of the
-- segments below it
abbrev pub samples_of : BundleParts → LevelKind → Option ℕ → Span → Option (ℕ × ℕ)
samples_of b kinds.Item time span = extent (items_below b time span)
samples_of b kinds.Segment time span = end_to_end (items_of b span)
samples_of b kinds.Event time span = end_to_end (items_of b span)

-- ---- rows

-- the row of a result, where this level gives the results of an ITEM level their times
abbrev pub row_of : ConfigParts → BundleParts → Option ℕ → Span → Row
row_of c b time span = row_between c b (samples_of b (kind_of c span.level) time span) span

-- the rows of a query in a bundle
abbrev pub rows : ConfigParts → BundleParts → AskedParts → List Row
rows c b a = map (row_of c b a.time) (results c b a.query)

-- the segment list of a query: the rows of one bundle after another
abbrev pub segment_list : ConfigParts → List BundleParts → AskedParts → List Row
segment_list c bundles a = flat_map (λ b. rows c b a) bundles

-- some part of a query has over 1,000,000 tuples in one of these bundles
abbrev pub any_has_too_many : ConfigParts → List BundleParts → AskedParts → Bool
any_has_too_many c bundles a = list_any (λ b. has_too_many c b a.query) bundles
