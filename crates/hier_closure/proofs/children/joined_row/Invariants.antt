use Rattle.std.proofs.Common.{◌≡◌, map, take}
use Rattle.hier_closure.specs.Inner.Stands.{stand_id}
use Rattle.hier_closure.proofs.Joins.{children_row}
use Rattle.hier_closure.proofs.children.joined_row.Given as goal

-- the row of the places so far
abbrev pub invariant-loop-at : goal.invariant-loop-at
invariant-loop-at l = l.row ≡ children_row l.bundle l.lower (map (stand_id l.bundle) (take l.at l.stands))
