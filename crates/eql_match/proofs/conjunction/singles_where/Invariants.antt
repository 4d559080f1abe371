use Rattle.std.proofs.Common.{◌≡◌, map}
use Rattle.std.specs.List.{filter, range_with_len}
use Rattle.eql_rows.specs.Inner.Flags.{flag_at}
use Rattle.eql_model.specs.Meaning.{single}
use Rattle.eql_match.proofs.conjunction.singles_where.Given as goal

-- the tuples of the positions so far
abbrev pub invariant-loop-at : goal.invariant-loop-at
invariant-loop-at l =
    l.made ≡ map (single l.marked) (filter (λ k. flag_at k l.row) (range_with_len 0 l.at))
