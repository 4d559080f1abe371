use Rattle.std.proofs.Common.{ap, ◌∙◌}
use Rattle.link_graph.specs.Link.{children_of}
use Rattle.bundle_state.specs.Bundle.{level_of_id}
use Rattle.hier_closure.proofs.Heights.{AreAbove}
use Rattle.hier_closure.proofs.Joins.{child_levels, children_split, children_end, is_some_at, no_more}
use Rattle.hier_closure.proofs.Places.{adds_none, adds_more, adds_all}
use Rattle.hier_closure.proofs.stands.put_children.Goals as goal

pub loop-child-init : goal.loop-child-init
loop-child-init c =
    let bundle = c.args.bundle.now in (
      tt,
      tt,
      (
        adds_none bundle c.args.stands.now,
        c.into_iter-child-iterator.ensures.into_iter_gives ∙ c.children-child-items.ensures ∙ ap (children_of c.args.item) c.links.ensures,
      ),
    )

pub stand_of-requires-clause-there : goal.stand_of-requires-clause-there
stand_of-requires-clause-there c =
    let bundle = c.args.bundle.now in
    let levels : AreAbove bundle.definitions (level_of_id bundle.levels) c.args.item.0 c.in-Some.child.0 =
    child_levels bundle c.args.item c.in-Some.child c.loop-child.yielded c.next.new.self c.requires
    (children_split c.loop-child.yielded c.loop-child.child-iterator c.next.new.self c.in-Some.child c.in-Some.ensures.steps ∙ c.loop-child.invariant.2.1) in
    is_some_at (level_of_id bundle.levels c.in-Some.child.0) levels.lower levels.to

pub loop-child-preserved : goal.loop-child-preserved
loop-child-preserved c =
    let bundle = c.args.bundle.now in (
      tt,
      tt,
      (
        adds_more bundle c.loop-child.yielded c.in-Some.child c.args.stands.now c.loop-child.stands c.push.new.self c.in_ok-stand.stand
            c.loop-child.invariant.2.0 c.in_ok-stand.ensures c.in_ok-push.ensures.ok,
        children_end c.loop-child.yielded c.loop-child.child-iterator c.next.new.self c.in-Some.child c.in-Some.ensures.steps ∙ c.loop-child.invariant.2.1,
      ),
    )

pub returns : goal.returns
returns c =
    adds_all c.args.bundle.now c.args.item c.loop-child.yielded c.args.stands.now c.loop-child.stands c.loop-child.invariant.2.0
    (no_more c.loop-child.yielded c.loop-child.child-iterator c.in-None.ensures.steps.0 ∙ c.loop-child.invariant.2.1)
