use Rattle.std.proofs.Common.{◌≡◌, take}
use Rattle.eql_columns.specs.Inner.Rows.{any_bits}
use Rattle.eql_columns.proofs.positions.bits_below.Given as goal

-- the bits of the rows so far
abbrev pub invariant-loop-upper : goal.invariant-loop-upper
invariant-loop-upper l = l.any ≡ any_bits l.width (take l.upper l.rows)
