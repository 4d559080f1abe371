use Rattle.std.proofs.Common.{take}
use Rattle.level_items.specs.Levels.{ids_of}
use Rattle.hier_closure.specs.Inner.Stands.{AreStandsOf}
use Rattle.hier_closure.proofs.stands.level_stands.Given as goal

-- the places of the items so far
abbrev pub invariant-loop-item : goal.invariant-loop-item
invariant-loop-item l =
    AreStandsOf l.bundle (ids_of (take l.item-index l.items)) (record { starts = l.starts; stands = l.stands })
