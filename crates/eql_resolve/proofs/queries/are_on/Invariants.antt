use Rattle.std.proofs.Common.{◌≡◌, drop, map}
use Rattle.std.specs.List.{list_all}
use Rattle.eql_resolve.specs.Asked.{is_on}
use Rattle.eql_resolve.specs.Inner.View.{term_in}
use Rattle.eql_resolve.proofs.queries.are_on.Given as goal

-- all are on the level exactly where the rest is
abbrev pub invariant-loop-term : goal.invariant-loop-term
invariant-loop-term l =
    list_all (is_on l.level) (map term_in (drop l.term-index l.terms))
    ≡ list_all (is_on l.level) (map term_in l.terms)
