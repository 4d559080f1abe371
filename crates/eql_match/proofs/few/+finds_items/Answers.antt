use Rattle.std.proofs.Common.{map, ap, subst, sym, ◌∙◌}
use Rattle.std.specs.List.{list_any}
use Rattle.eql_resolve.specs.Asked.{is_marked_term}
use Rattle.eql_resolve.specs.Inner.View.{query_in, term_in}
use Rattle.eql_match.specs.Inner.Few.{IsRowAlways}
use Rattle.eql_match.proofs.FewTuples.{row_of_dominance, row_where_unmarked}
use Rattle.eql_match.proofs.few.+finds_items.Goals as goal

pub returns-in-Terms : goal.returns-in-Terms
returns-in-Terms t c = λ bare.
    subst (λ q. IsRowAlways (query_in q)) (sym c.in-Terms.is)
    (row_where_unmarked (map term_in c.in-Terms.conditions.items) c.are_marked.result
    (c.are_marked.ensures ∙ ap (λ ts. list_any is_marked_term (map term_in ts)) c.as_slice.ensures.value) bare)

pub returns-then-finds_items : goal.returns-then-finds_items
returns-then-finds_items t c = λ both.
    subst (λ q. IsRowAlways (query_in q)) (sym c.in-Dominance.is)
    (row_of_dominance (query_in c.in-Dominance.left.value) (query_in c.in-Dominance.right.value)
    (subst (λ q. IsRowAlways (query_in q)) c.deref.ensures (c.finds_items.ensures c.if-finds_items.true))
    (subst (λ q. IsRowAlways (query_in q)) c.deref-then-finds_items.ensures (c.finds_items-then-finds_items.ensures both)))
