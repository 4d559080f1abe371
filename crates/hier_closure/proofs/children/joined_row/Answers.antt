use Rattle.std.proofs.Common.{sym, ap, ◌∙◌, length, map, take, arith}
use Rattle.std.specs.List.{list_any}
use Rattle.std.proofs.lemmas.List.{length-map, take_all}
use Rattle.hier_closure.specs.Dominance.{ids_at, is_or_dominates}
use Rattle.hier_closure.specs.Inner.Stands.{stand_id}
use Rattle.hier_closure.proofs.Joins.{children_row, first_row, ids_count}
use Rattle.hier_closure.proofs.Places.{place_more}
use Rattle.hier_closure.proofs.children.joined_row.Goals as goal

pub loop-at-init : goal.loop-at-init
loop-at-init c =
    c.in-Ok.ensures
    ∙ first_row c.args.bundle.now c.args.lower c.len.result
    (ids_count c.args.bundle.now.levels c.args.lower c.level.result.now c.level.ensures.level ∙ sym c.len.ensures.length)

pub add_stand-requires-clause-wide : goal.add_stand-requires-clause-wide
add_stand-requires-clause-wide c =
    ap length c.loop-at.invariant
    ∙ length-map (ids_at c.args.bundle.now.levels c.args.lower)
    (λ b. list_any (is_or_dominates c.args.bundle.now.links b) (map (stand_id c.args.bundle.now) (take c.loop-at.at c.args.stands.now)))

pub add_stand-requires-clause-ready : goal.add_stand-requires-clause-ready
add_stand-requires-clause-ready c =
    c.requires.ready c.loop-at.at _ c.loop-at-test.true

pub loop-at-preserved : goal.loop-at-preserved
loop-at-preserved c =
    place_more c.args.bundle.now c.args.lower c.loop-at.at c.args.stands.now _ c.loop-at.row c.add_stand.new.row
    c.loop-at-test.true c.loop-at.invariant c.in_ok-add_stand.ensures

pub returns : goal.returns
returns c =
    c.loop-at.invariant
    ∙ ap (λ xs. children_row c.args.bundle.now c.args.lower (map (stand_id c.args.bundle.now) xs))
    (take_all c.loop-at.at c.args.stands.now (omega arith))
