-- The results of a query in one bundle (EMU-SDMS Manual, "The EMU Query Language (EQL)": results are
-- stretches of items, or the items that a `#` marks).
use Rattle.std.specs.Prelude.{List, map}
use Rattle.std.specs.List.{flat_map}
use Rattle.db_config.specs.declared.parts.ConfigParts.{ConfigParts}
use Rattle.bundle_state.specs.Bundle.{BundleParts}
use Rattle.eql_resolve.specs.Asked.{AskedQuery, is_marked, shown_place}
use Rattle.eql_tuples.specs.declared.tuple.Tuple.{Tuple}
use Rattle.eql_tuples.specs.Shown.{shown}
use Rattle.eql_rows.specs.declared.span.Span.{Span}
use Rattle.eql_tuples.specs.Sets.{each_once}
use Rattle.eql_model.specs.Meaning.{tuples}
use Rattle.eql_rows.specs.Spans.{span_at}

-- the results as stretches, in order, each once
abbrev pub stretches : ConfigParts → BundleParts → AskedQuery → List Tuple
stretches c b q = each_once (flat_map (shown (is_marked q)) (tuples c b q))

-- the results of a query
abbrev pub results : ConfigParts → BundleParts → AskedQuery → List Span
results c b q = map (span_at (shown_place q)) (stretches c b q)
