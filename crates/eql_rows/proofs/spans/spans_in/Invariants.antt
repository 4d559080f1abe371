use Rattle.std.proofs.Common.{◌≡◌, ◌-◌, ◌≤◌, length, map}
use Rattle.std.specs.List.{filter, range_with_len}
use Rattle.eql_rows.specs.Inner.Flags.{flag_at}
use Rattle.eql_tuples.specs.Shown.{bare}
use Rattle.eql_rows.specs.Spans.{span_at}
use Rattle.eql_rows.proofs.spans.spans_in.Given as goal

-- the items so far
abbrev pub invariant-loop-at : goal.invariant-loop-at
invariant-loop-at l = record {
  within : l.from ≤ length l.row;
  made : l.made ≡ map (λ k. span_at l.place (bare k k)) (filter (λ k. flag_at k l.row) (range_with_len 0 l.from));
}

abbrev pub decreases-loop-at : goal.decreases-loop-at
decreases-loop-at l = length l.row - l.from
