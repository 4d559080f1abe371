use Rattle.std.proofs.Common.{◌≡◌, ◌-◌, ◌≤◌, ◌||◌, ◌&&◌, length, map}
use Rattle.std.specs.List.{list_any, range_with_len}
use Rattle.eql_rows.specs.Inner.Flags.{flag_at}
use Rattle.eql_model.specs.Inner.Joins.{bit_at}
use Rattle.eql_match.proofs.found.add_below.Given as goal

-- the items that were set before, and those below the right ones so far
abbrev pub invariant-loop-at : goal.invariant-loop-at
invariant-loop-at l = record {
  within : l.from ≤ length l.rights;
  made : l.made
      ≡ map (λ k. flag_at k l.fn.made || list_any (λ j. flag_at j l.rights && bit_at l.rows j k) (range_with_len 0 l.from))
      (range_with_len 0 (length l.lefts));
}

abbrev pub decreases-loop-at : goal.decreases-loop-at
decreases-loop-at l = length l.rights - l.from
