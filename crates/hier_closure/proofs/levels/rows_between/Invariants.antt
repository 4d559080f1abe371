use Rattle.std.proofs.Common.{◌≡◌, length}
use Rattle.hier_closure.specs.Inner.Ranks.{AreMadeTo}
use Rattle.hier_closure.proofs.levels.rows_between.Given as goal

-- the ranks so far
abbrev pub invariant-loop-rank : goal.invariant-loop-rank
invariant-loop-rank l =
    (length l.table.items ≡ length l.bundle.levels)
    × AreMadeTo l.bundle l.upper l.lower l.rank 0 l.table.items
