use Rattle.std.proofs.Common.{◌≡◌}
use mathlib.Core.List.{IsPrefix}
use Rattle.live_run.proofs.ending.learn_all.Given as goal

abbrev pub invariant-loop : goal.invariant-loop
invariant-loop g l = record {
  same : l.book ≡ l.initial.book;
  gate : l.pass.gate ≡ l.initial.pass.gate;
  own : IsPrefix l.initial.pass.list l.pass.list;
}
