-- The segment list of a query whose results are carried (EMU-SDMS Manual, "The EMU Query Language (EQL)":
-- requery).
use Rattle.std.specs.Prelude.{List, map}
use Rattle.std.specs.List.{filter_map, flat_map}
use Rattle.db_config.specs.declared.parts.ConfigParts.{ConfigParts}
use Rattle.bundle_state.specs.Bundle.{BundleParts}
use Rattle.eql_rows.specs.declared.span.Span.{Span}
use Rattle.eql_rows.specs.declared.row.Row.{Row}
use Rattle.eql_model.specs.Results.{results}
use Rattle.eql_model.specs.Rows.{row_of}
use Rattle.requery.specs.Target.{ReachedParts}
use Rattle.requery.specs.Reach.{reach}

-- what the results of a query reach in a bundle, in the order of the results; equal stretches stay
abbrev pub reached_spans : ConfigParts → BundleParts → ReachedParts → List Span
reached_spans c b r = filter_map (reach b r.target) (results c b r.asked.query)

-- the rows of what is reached in a bundle
abbrev pub carried_rows : ConfigParts → BundleParts → ReachedParts → List Row
carried_rows c b r = map (row_of c b r.asked.time) (reached_spans c b r)

-- the rows of one bundle after another
abbrev pub carried_list : ConfigParts → List BundleParts → ReachedParts → List Row
carried_list c bundles r = flat_map (λ b. carried_rows c b r) bundles
