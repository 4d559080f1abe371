use Rattle.std.proofs.Common.{◌≡◌, ◌++◌, List, ℕ, take, codes}
use Rattle.std.specs.List.{flat_map}
use Rattle.std.specs.String.{string_bytes}
use Rattle.eql_syntax.specs.Inner.Print.{quoted_text}
use Rattle.eql_syntax.proofs.print.push_labels.Given as goal

abbrev pub invariant-loop-label : goal.invariant-loop-label
invariant-loop-label l =
    string_bytes l.out ≡ string_bytes l.initial.out ++ flat_map (λ (x : List ℕ). codes "|" ++ quoted_text x) (take l.label-index l.others)
