-- The rows of a level, however they are kept.
use Rattle.std.specs.Prelude.{Bool, List, replicate}
use Rattle.hier_closure.specs.declared.held.Held.{Held}
use Rattle.hier_closure.specs.declared.held.Held.TheVariants.{Alike, Each}

-- the row of each item
abbrev pub rows_in : Held → List (List Bool)
rows_in (Each rows) = rows
rows_in (Alike count row) = replicate count row
