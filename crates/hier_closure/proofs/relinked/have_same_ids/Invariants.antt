use Rattle.std.proofs.Common.{◌≡◌, take}
use Rattle.level_items.specs.Levels.{ids_of}
use Rattle.hier_closure.proofs.relinked.have_same_ids.Given as goal

-- the ids so far are the same
abbrev pub invariant-loop-at : goal.invariant-loop-at
invariant-loop-at l = ids_of (take l.at l.items) ≡ ids_of (take l.at l.others)
