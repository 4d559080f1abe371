use Rattle.std.proofs.Common.{◌≡◌, length}
use Rattle.hier_closure.specs.Inner.Ranks.{AreMadeTo}
use Rattle.hier_closure.proofs.levels.add_rank.Given as goal

-- the levels so far
abbrev pub invariant-loop-level : goal.invariant-loop-level
invariant-loop-level l =
    (length l.table.items ≡ length l.bundle.levels)
    × AreMadeTo l.bundle l.between.0 l.between.1 l.rank l.level l.table.items
