use Rattle.std.proofs.Common.{◌≡◌, map}
use Rattle.std.specs.List.{range_with_len}
use Rattle.level_items.specs.Levels.{ids_of}
use Rattle.eql_model.specs.Inner.Bits.{rows_place}
use Rattle.eql_model.proofs.positions.place_flags.Given as goal

-- the flags of the positions so far
abbrev pub invariant-loop-at : goal.invariant-loop-at
invariant-loop-at l =
    l.flags ≡ map (rows_place l.rows (ids_of l.lowers) l.place l.wanted) (range_with_len 0 l.at)
