use Rattle.std.proofs.Common.{◌<◌, ℕ, get_or}
use Rattle.eql_columns.proofs.patterns.numbers_within.Given as goal

-- the numbers so far are lower
abbrev pub invariant-loop-number : goal.invariant-loop-number
invariant-loop-number l = (k : ℕ) → k < l.number-index → get_or l.column k 0 < l.most
