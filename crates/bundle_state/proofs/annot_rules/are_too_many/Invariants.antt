use Rattle.std.proofs.Common.{◌≡◌, ◌+◌, ◌≤◌, drop}
use Rattle.bundle_state.specs.Faults.{given_count}
use Rattle.bundle_state.proofs.annot_rules.are_too_many.Given as goal

abbrev pub invariant-loop-level : goal.invariant-loop-level
invariant-loop-level l = record {
  count : given_count l.fn.levels + l.room ≡ 65536 + given_count (drop l.level-index l.levels);
  within : l.room ≤ 65536;
}
