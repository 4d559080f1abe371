use Rattle.std.proofs.Common.{◌≡◌, ◌++◌, take, codes}
use Rattle.std.specs.List.{flat_map}
use Rattle.std.specs.String.{string_bytes}
use Rattle.eql_syntax.specs.declared.query.Term.{Term}
use Rattle.eql_syntax.specs.Inner.Print.{term_text}
use Rattle.eql_syntax.proofs.print.push_terms.Given as goal

abbrev pub invariant-loop-term : goal.invariant-loop-term
invariant-loop-term l =
    string_bytes l.out ≡ string_bytes l.initial.out ++ flat_map (λ (t : Term). codes " & " ++ term_text t) (take l.term-index l.others)
