use Rattle.std.proofs.Common.{◌≡◌, false, replicate}
use Rattle.hier_closure.proofs.linked.unset_rows.Given as goal

-- the rows so far
abbrev pub invariant-loop : goal.invariant-loop
invariant-loop l = l.rows.items ≡ replicate l.counter (replicate l.width false)
