use Rattle.std.proofs.Common.{map}
use Rattle.eql_resolve.specs.Inner.View.{term_in}
use Rattle.eql_resolve.proofs.Loops.{AreAsked}
use Rattle.eql_resolve.proofs.terms.asked_terms.Given as goal

-- the conditions so far
abbrev pub invariant-loop-term : goal.invariant-loop-term
invariant-loop-term l = AreAsked l.config l.terms (map term_in l.made.items) l.rest l.term-index
