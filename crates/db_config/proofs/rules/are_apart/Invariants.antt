use Rattle.std.proofs.Common.{◌≡◌, length}
use Rattle.db_config.specs.Valid.{are_apart}
use Rattle.db_config.proofs.rules.are_apart.Given as goal

-- all are apart where the rest is
abbrev pub invariant-loop-rest : goal.invariant-loop-rest
invariant-loop-rest l = are_apart l.rest ≡ are_apart l.links

abbrev pub decreases-loop-rest : goal.decreases-loop-rest
decreases-loop-rest l = length l.rest
