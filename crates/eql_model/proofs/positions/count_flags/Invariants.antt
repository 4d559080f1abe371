use Rattle.std.proofs.Common.{◌≡◌, map, take}
use Rattle.eql_model.specs.Inner.Bits.{row_counts}
use Rattle.eql_model.proofs.positions.count_flags.Given as goal

-- the flags of the rows so far
abbrev pub invariant-loop-upper : goal.invariant-loop-upper
invariant-loop-upper l = l.flags ≡ map (row_counts l.compare l.number) (take l.upper l.rows)
