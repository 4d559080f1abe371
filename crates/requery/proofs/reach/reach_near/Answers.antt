use Rattle.std.proofs.Common.{ap, length, subst}
use Rattle.requery.specs.Inner.Ways.{IsNear}
use Rattle.requery.proofs.Levels.{few_on, given_same}
use Rattle.requery.proofs.Lists.{own_list, moved_list}
use Rattle.requery.proofs.reach.reach_near.Goals as goal

pub moved_spans-requires : goal.moved_spans-requires
moved_spans-requires c =
    few_on c.args.bundle.now c.args.level (length c.items_at.result.now) c.item_count-items.ensures.rules (ap length c.items_at.ensures)

pub returns-in-Level : goal.returns-in-Level
returns-in-Level c =
    rw c.in-Level.is (
    given_same c.on_level.result _ _
    (own_list c.args.config.now c.args.bundle.now c.in-Level.place c.args.level c.args.spans.now
    (subst (IsNear c.args.level) c.in-Level.is c.requires.near) c.requires.spans) c.on_level.ensures)

pub returns-in-Along : goal.returns-in-Along
returns-in-Along c =
    rw c.in-Along.is (
    given_same c.moved_spans.result _ _
    (moved_list c.args.config.now c.args.bundle.now c.in-Along.shift c.args.level (length c.items_at.result.now) c.args.spans.now
    (ap length c.items_at.ensures) c.requires.spans) c.moved_spans.ensures)
