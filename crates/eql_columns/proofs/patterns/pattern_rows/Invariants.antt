use Rattle.std.proofs.Common.{◌≡◌, map, take}
use Rattle.eql_model.specs.Inner.Labels.{matched_row}
use Rattle.level_items.specs.Levels.{items_at}
use Rattle.eql_columns.proofs.patterns.pattern_rows.Given as goal

-- the rows of the patterns so far
abbrev pub invariant-loop-pattern : goal.invariant-loop-pattern
invariant-loop-pattern l =
    l.rows ≡ map (matched_row l.place.attribute (items_at l.indexed.bundle.levels l.place.level)) (take l.pattern-index l.patterns)
