use Rattle.std.proofs.Common.{◌≡◌, ◌++◌, drop}
use Rattle.eql_resolve.specs.Prepared.{terms_patterns}
use Rattle.eql_resolve.proofs.compile.put_terms.Given as goal

-- with the patterns of the rest behind them, the texts are all
abbrev pub invariant-loop-term : goal.invariant-loop-term
invariant-loop-term l =
    l.texts ++ terms_patterns (drop l.term-index l.terms) ≡ l.fn.texts ++ terms_patterns l.terms
