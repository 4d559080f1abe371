use Rattle.std.proofs.Common.{◌≡◌, length, take}
use Rattle.eql_columns.specs.Inner.Rows.{any_bits}
use Rattle.eql_columns.proofs.rows.set_any.Given as goal

-- the bits of the rows so far
abbrev pub invariant-loop-row : goal.invariant-loop-row
invariant-loop-row l = l.any ≡ any_bits (length l.fn.any) (take l.row-index l.rows)
