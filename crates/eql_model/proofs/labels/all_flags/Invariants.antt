use Rattle.std.proofs.Common.{◌≡◌, take, map}
use Rattle.eql_model.specs.Inner.Labels.{matched_row}
use Rattle.eql_model.proofs.labels.all_flags.Given as goal

-- the rows of the patterns so far
abbrev pub invariant-loop-pattern : goal.invariant-loop-pattern
invariant-loop-pattern l = l.rows ≡ map (matched_row l.attribute l.items) (take l.pattern-index l.patterns)
