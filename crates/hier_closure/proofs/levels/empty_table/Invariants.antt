use Rattle.std.proofs.Common.{◌≡◌, length}
use Rattle.hier_closure.proofs.levels.empty_table.Given as goal

abbrev pub invariant-loop : goal.invariant-loop
invariant-loop l = length l.table.items ≡ l.counter
