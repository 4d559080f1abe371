use Rattle.std.proofs.Common.{◌≡◌, None, replicate}
use Rattle.live_seats.proofs.table.Table.new.Given as goal

-- the places so far tell of nothing
abbrev pub invariant-loop-cell : goal.invariant-loop-cell
invariant-loop-cell g l = l.told.items ≡ replicate l._cell None
