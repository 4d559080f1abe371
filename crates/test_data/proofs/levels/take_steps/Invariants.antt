use Rattle.std.proofs.Common.{◌≡◌}
use Rattle.test_data.proofs.levels.take_steps.Given as goal

-- the level has no attributes
abbrev pub invariant-loop-row : goal.invariant-loop-row
invariant-loop-row g l = l.list.attributes ≡ 0
