use Rattle.std.proofs.Common.{◌≡◌, map, take}
use Rattle.hier_closure.specs.Dominance.{ids_at, closure_row}
use Rattle.hier_closure.proofs.levels.level_rows.Given as goal

-- the rows of the items so far
abbrev pub invariant-loop-position : goal.invariant-loop-position
invariant-loop-position l =
    l.rows ≡ map (closure_row l.bundle.links (ids_at l.bundle.levels l.lower)) (take l.position (ids_at l.bundle.levels l.level))
