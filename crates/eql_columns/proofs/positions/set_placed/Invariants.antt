use Rattle.std.proofs.Common.{length, take}
use Rattle.eql_columns.specs.Inner.Places.{ArePlaced}
use Rattle.eql_columns.proofs.positions.set_placed.Given as goal

-- the bits by the rows so far
abbrev pub invariant-loop-upper : goal.invariant-loop-upper
invariant-loop-upper l = ArePlaced l.place (take l.upper l.rows) (length l.fn.placed) l.placed
