use Rattle.std.proofs.Common.{◌≡◌, ◌+◌, ◌-◌, ◌≤◌, ◌&&◌, length, map}
use Rattle.std.specs.List.{filter, range_with_len}
use Rattle.eql_rows.specs.Inner.Flags.{flag_at}
use Rattle.eql_match.specs.Inner.Found.{neighbours}
use Rattle.eql_match.proofs.found.follow.Given as goal

-- the stretches that begin so far
abbrev pub invariant-loop-at : goal.invariant-loop-at
invariant-loop-at l = record {
  within : l.from ≤ length l.lefts;
  made : l.made ≡ map neighbours (filter (λ k. flag_at k l.lefts && flag_at (k + 1) l.rights) (range_with_len 0 l.from));
}

abbrev pub decreases-loop-at : goal.decreases-loop-at
decreases-loop-at l = length l.lefts - l.from
