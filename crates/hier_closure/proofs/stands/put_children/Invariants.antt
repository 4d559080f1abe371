use Rattle.std.proofs.Common.{◌≡◌, ◌++◌}
use Rattle.link_graph.specs.Link.{children_of}
use Rattle.hier_closure.proofs.Places.{AddsItems}
use Rattle.hier_closure.proofs.stands.put_children.Given as goal

-- the places of the items so far
abbrev pub invariant-loop-child : goal.invariant-loop-child
invariant-loop-child l =
    (goal.iterator-loop-child).can_next l.child-iterator ×
    (goal.iterator-loop-child).is_finite l.child-iterator ×
    (AddsItems l.bundle l.yielded l.initial.stands l.stands ×
    (l.yielded ++ l.child-iterator ≡ children_of l.fn.item l.bundle.links))
