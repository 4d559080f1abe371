use Rattle.std.proofs.Common.{◌≡◌, map, take}
use Rattle.eql_rows.specs.Spans.{span_at}
use Rattle.eql_rows.proofs.spans.spans_at.Given as goal

-- the results so far
abbrev pub invariant-loop-stretch : goal.invariant-loop-stretch
invariant-loop-stretch l = l.made ≡ map (span_at l.place) (take l.stretch-index l.stretches)
