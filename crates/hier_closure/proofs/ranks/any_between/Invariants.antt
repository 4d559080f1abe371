use Rattle.std.proofs.Common.{◌≡◌, false, length}
use Rattle.hier_closure.proofs.Tables.{between_to}
use Rattle.hier_closure.proofs.ranks.any_between.Given as goal

-- none of the levels so far
abbrev pub invariant-loop-level : goal.invariant-loop-level
invariant-loop-level l = between_to l.config.links (length l.config.levels) l.upper l.lower l.level ≡ false
