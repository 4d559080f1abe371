use Rattle.std.proofs.Common.{◌≡◌, drop}
use Rattle.std.specs.List.{list_any}
use Rattle.eql_rows.specs.Inner.Flags.{flag_at}
use Rattle.eql_model.proofs.positions.some_bit.Given as goal

-- the rows that are left answer the question
abbrev pub invariant-loop-upper : goal.invariant-loop-upper
invariant-loop-upper l = list_any (flag_at l.at) (drop l.upper l.rows) ≡ list_any (flag_at l.at) l.rows
