use Rattle.std.proofs.Common.{map, subst, sym}
use Rattle.eql_resolve.specs.Inner.View.{query_in, term_in}
use Rattle.eql_match.specs.Inner.Few.{AreFewAlways, IsRowAlways}
use Rattle.eql_match.proofs.FewTuples.{few_dominance, few_sequence, few_terms}
use Rattle.eql_match.proofs.few.is_few.Goals as goal

pub returns-in-Terms : goal.returns-in-Terms
returns-in-Terms c = λ it. subst (λ q. AreFewAlways (query_in q)) (sym c.in-Terms.is) (few_terms (map term_in c.in-Terms.field-0.items))

pub returns-then-finds_items : goal.returns-then-finds_items
returns-then-finds_items c = λ both.
    subst (λ q. AreFewAlways (query_in q)) (sym c.in-Sequence.is)
    (few_sequence (query_in c.in-Sequence.left.value) (query_in c.in-Sequence.right.value)
    (subst (λ q. IsRowAlways (query_in q)) c.deref.ensures (c.finds_items.ensures c.if-finds_items.true))
    (subst (λ q. IsRowAlways (query_in q)) c.deref-then-finds_items.ensures (c.finds_items-then-finds_items.ensures both)))

pub returns-then-finds_items-2 : goal.returns-then-finds_items-2
returns-then-finds_items-2 c = λ both.
    subst (λ q. AreFewAlways (query_in q)) (sym c.in-Dominance.is)
    (few_dominance (query_in c.in-Dominance.left.value) (query_in c.in-Dominance.right.value)
    (subst (λ q. IsRowAlways (query_in q)) c.deref-in-Dominance.ensures (c.finds_items-in-Dominance.ensures c.if-finds_items-2.true))
    (subst (λ q. IsRowAlways (query_in q)) c.deref-then-finds_items-2.ensures (c.finds_items-then-finds_items-2.ensures both)))
