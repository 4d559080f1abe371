use Rattle.std.proofs.Common.{◌≡◌, ◌+◌, length, drop}
use Rattle.eql_resolve.specs.Prepared.{terms_patterns}
use Rattle.eql_resolve.proofs.counts.terms_count.Given as goal

-- the patterns so far and those of the rest are all
abbrev pub invariant-loop-term : goal.invariant-loop-term
invariant-loop-term l =
    l.count + length (terms_patterns (drop l.term-index l.terms)) ≡ length (terms_patterns l.terms)
