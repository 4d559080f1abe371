use Rattle.std.proofs.Common.{◌≡◌, ◌<◌, ℕ, true, false, get_or}
use Rattle.hier_closure.specs.Dominance.{ids_at}
use Rattle.hier_closure.proofs.relinked.are_alike_on.Given as goal

-- the marked levels so far have items with the same ids
abbrev pub invariant-loop-level : goal.invariant-loop-level
invariant-loop-level l = (k : ℕ) → k < l.level → get_or l.marked k false ≡ true → ids_at l.bundle.levels k ≡ ids_at l.old.levels k
