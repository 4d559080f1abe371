use Rattle.std.proofs.Common.{◌≡◌, map, drop}
use Rattle.std.specs.List.{list_any}
use Rattle.eql_resolve.specs.Asked.{is_marked_term}
use Rattle.eql_resolve.specs.Inner.View.{term_in}
use Rattle.eql_match.proofs.conjunction.are_marked.Given as goal

-- a condition is marked where one of the rest is
abbrev pub invariant-loop-term : goal.invariant-loop-term
invariant-loop-term l = list_any is_marked_term (map term_in (drop l.term-index l.terms)) ≡ list_any is_marked_term (map term_in l.terms)
