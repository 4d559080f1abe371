use Rattle.std.proofs.Common.{◌≡◌, ◌-◌}
use Rattle.std.specs.List.{list_any, range_with_len}
use Rattle.eql_model.specs.Inner.Joins.{bit_at, is_under}
use Rattle.eql_model.proofs.joins.is_under.Given as goal

-- the rows that are left answer the question
abbrev pub invariant-loop-row : goal.invariant-loop-row
invariant-loop-row l =
    list_any (λ i. bit_at l.rows i l.place) (range_with_len l.row (l.row-end - l.row)) ≡ is_under l.rows l.fn.upper l.place
