use Rattle.std.proofs.Common.{◌≡◌, length}
use Rattle.hier_closure.proofs.Heights.{rank_to}
use Rattle.hier_closure.proofs.ranks.rank_of.Given as goal

-- the rank among the levels so far
abbrev pub invariant-loop-lower : goal.invariant-loop-lower
invariant-loop-lower l = l.rank ≡ rank_to l.config.links (length l.config.levels) l.level l.lower
