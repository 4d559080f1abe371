use Rattle.std.proofs.Common.{◌≡◌, drop}
use Rattle.std.specs.List.{list_any}
use Rattle.level_items.specs.Levels.{ids_of}
use Rattle.eql_model.specs.Inner.Bits.{row_stands}
use Rattle.eql_model.proofs.positions.some_stands.Given as goal

-- the rows that are left answer the question
abbrev pub invariant-loop-upper : goal.invariant-loop-upper
invariant-loop-upper l =
    list_any (row_stands (ids_of l.lowers) l.place l.at) (drop l.upper l.rows)
    ≡ list_any (row_stands (ids_of l.lowers) l.place l.at) l.rows
