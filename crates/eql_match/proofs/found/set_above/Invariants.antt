use Rattle.std.proofs.Common.{◌-◌, ◌≤◌, ◌&&◌, length}
use Rattle.eql_rows.specs.Inner.Flags.{flag_at}
use Rattle.eql_match.specs.Inner.Found.{is_above_some}
use Rattle.eql_match.proofs.Steps.{AskedTo}
use Rattle.eql_match.proofs.found.set_above.Given as goal

-- the left items before have been asked
abbrev pub invariant-loop-at : goal.invariant-loop-at
invariant-loop-at l = record {
  within : l.from ≤ length l.lefts;
  asked : AskedTo (λ k. flag_at k l.lefts && is_above_some l.rows l.rights k) (length l.lefts) l.made l.from;
}

abbrev pub decreases-loop-at : goal.decreases-loop-at
decreases-loop-at l = length l.lefts - l.from
