use Rattle.std.proofs.Common.{◌≡◌, length}
use Rattle.db_config.specs.Names.{are_distinct}
use Rattle.db_config.proofs.names.are_distinct.Given as goal

-- all are distinct where the rest is
abbrev pub invariant-loop-rest : goal.invariant-loop-rest
invariant-loop-rest l = are_distinct l.rest ≡ are_distinct l.names

abbrev pub decreases-loop-rest : goal.decreases-loop-rest
decreases-loop-rest l = length l.rest
