use Rattle.std.proofs.Common.{◌≡◌, drop}
use Rattle.std.specs.List.{list_any}
use Rattle.eql_rows.specs.Inner.Flags.{flag_at}
use Rattle.eql_model.proofs.flags.any_at.Given as goal

-- the rows that are left answer the question
abbrev pub invariant-loop-row : goal.invariant-loop-row
invariant-loop-row l = list_any (flag_at l.at) (drop l.row-index l.rows) ≡ list_any (flag_at l.at) l.rows
