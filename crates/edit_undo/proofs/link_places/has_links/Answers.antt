use Rattle.std.proofs.Common.{◌∙◌}
use Rattle.bundle_state.proofs.NamedLinks.{has_parent, has_child, named_above, named_below}
use Rattle.edit_undo.proofs.link_places.has_links.Goals as goal

pub returns-then-is_some : goal.returns-then-is_some
returns-then-is_some c =
    named_above c.args.id c.args.links.now c.is_some.result
    (c.is_some.ensures ∙ has_parent c.args.id c.args.links.now c.parents.result c.next.new.self c.next.result c.parents.ensures c.next.ensures.steps) c.if-is_some.true

pub returns-else-is_some : goal.returns-else-is_some
returns-else-is_some c =
    named_below c.args.id c.args.links.now c.is_some.result c.is_some-else-is_some.result
    (c.is_some.ensures ∙ has_parent c.args.id c.args.links.now c.parents.result c.next.new.self c.next.result c.parents.ensures c.next.ensures.steps) c.if-is_some.false
    (c.is_some-else-is_some.ensures
    ∙ has_child c.args.id c.args.links.now c.children.result c.next-else-is_some.new.self c.next-else-is_some.result c.children.ensures c.next-else-is_some.ensures.steps)
