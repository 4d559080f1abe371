use Rattle.std.proofs.Common.{ap, length}
use Rattle.requery.proofs.Levels.{few_on, rows_long, rows_broad, given_same}
use Rattle.requery.proofs.Lists.{kin_list_by}
use Rattle.requery.proofs.reach.reach_between.Goals as goal

pub kin_stretches-requires-clause-few : goal.kin_stretches-requires-clause-few
kin_stretches-requires-clause-few c =
    few_on c.args.bundle.now c.args.place.level (length c.items_at-width.result.now) c.item_count-items.ensures.rules
    (ap length c.items_at-width.ensures)

pub kin_stretches-requires-clause-count : goal.kin_stretches-requires-clause-count
kin_stretches-requires-clause-count c =
    rows_long c.args.bundle.now c.args.level c.args.place.level (length c.items_at-count.result.now) c.args.down.now c.requires.down
    (ap length c.items_at-count.ensures)

pub kin_stretches-requires-clause-width : goal.kin_stretches-requires-clause-width
kin_stretches-requires-clause-width c =
    rows_long c.args.bundle.now c.args.place.level c.args.level (length c.items_at-width.result.now) c.args.up.now c.requires.up
    (ap length c.items_at-width.ensures)

pub kin_stretches-requires-clause-down : goal.kin_stretches-requires-clause-down
kin_stretches-requires-clause-down c =
    rows_broad c.args.bundle.now c.args.level c.args.place.level (length c.items_at-width.result.now) c.args.down.now c.requires.down
    (ap length c.items_at-width.ensures)

pub kin_stretches-requires-clause-up : goal.kin_stretches-requires-clause-up
kin_stretches-requires-clause-up c =
    rows_broad c.args.bundle.now c.args.place.level c.args.level (length c.items_at-count.result.now) c.args.up.now c.requires.up
    (ap length c.items_at-count.ensures)

pub returns : goal.returns
returns c =
    given_same c.on_level.result _ _
    (kin_list_by c.args.config.now c.args.bundle.now c.args.place c.args.level c.args.down.now c.args.up.now
    c.in_ok-kin_stretches.field-0.items c.args.spans.now c.requires.apart c.requires.down c.requires.up c.in_ok-kin_stretches.ensures
    c.requires.spans) c.on_level.ensures
