use Rattle.std.proofs.Common.{◌≡◌}
use Rattle.test_data.proofs.levels.fill.Given as goal

-- the level has no attributes
abbrev pub invariant-loop-number : goal.invariant-loop-number
invariant-loop-number l = l.list.attributes ≡ 0
