use Rattle.std.proofs.Common.{◌≡◌, drop, map}
use Rattle.eql_resolve.specs.Asked.{marked_of}
use Rattle.eql_resolve.specs.Inner.View.{term_in}
use Rattle.eql_resolve.proofs.asked.marked_of.Given as goal

-- the marked one of the rest is that of all
abbrev pub invariant-loop-term : goal.invariant-loop-term
invariant-loop-term l =
    marked_of (map term_in (drop l.term-index l.terms)) ≡ marked_of (map term_in l.terms)
