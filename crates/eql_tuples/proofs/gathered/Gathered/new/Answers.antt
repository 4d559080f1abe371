use Rattle.std.proofs.Common.{sym, subst}
use Rattle.std.specs.List.Sorted.{IsStrictlySortedBy}
use Rattle.eql_tuples.specs.Sets.{tuple_cmp}
use Rattle.eql_tuples.proofs.Members.{nothing_sorted}
use Rattle.eql_tuples.proofs.gathered.Gathered.new.Goals as goal

pub invariant_of-result : goal.invariant_of-result
invariant_of-result c = subst (IsStrictlySortedBy tuple_cmp) (sym c.new.ensures) nothing_sorted
