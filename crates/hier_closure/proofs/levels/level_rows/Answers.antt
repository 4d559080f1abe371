use Rattle.std.proofs.Common.{arith}
use Rattle.hier_closure.proofs.Joins.{ids_count}
use Rattle.hier_closure.proofs.Places.{own_of, ready_at, rows_more, rows_whole}
use Rattle.hier_closure.proofs.levels.level_rows.Goals as goal

pub of_item-children-requires : goal.of_item-children-requires
of_item-children-requires c =
    let long = ids_count c.args.bundle.now.levels c.args.level c.level.result.now c.level.ensures.level in
    let count = c.len-count.ensures.length in
    (own_of c.args.bundle.now c.args.stands.now c.args.level c.index-stands-level.result c.requires.stands c.requires.level
    c.index-stands-level.is).cuts c.loop-position.position (omega arith)

pub joined_row-requires-clause-ready : goal.joined_row-requires-clause-ready
joined_row-requires-clause-ready c =
    let long = ids_count c.args.bundle.now.levels c.args.level c.level.result.now c.level.ensures.level in
    let count = c.len-count.ensures.length in
    ready_at c.args.bundle.now c.args.lower c.args.level c.loop-position.position c.args.table.now c.args.stands.now
    c.index-stands-level.result c.of_item-children.result.now c.requires.stands c.requires.made c.requires.level
    c.index-stands-level.is (omega arith) c.of_item-children.ensures

pub loop-position-preserved : goal.loop-position-preserved
loop-position-preserved c =
    let long = ids_count c.args.bundle.now.levels c.args.level c.level.result.now c.level.ensures.level in
    let count = c.len-count.ensures.length in
    rows_more c.args.bundle.now c.args.lower c.args.level c.loop-position.position c.args.stands.now c.index-stands-level.result
    c.of_item-children.result.now c.in_ok-row.row c.loop-position.rows c.push.new.self c.requires.stands c.requires.level
    c.index-stands-level.is (omega arith) c.of_item-children.ensures c.in_ok-row.ensures c.loop-position.invariant
    c.in_ok-push.ensures.ok

pub returns : goal.returns
returns c =
    let long = ids_count c.args.bundle.now.levels c.args.level c.level.result.now c.level.ensures.level in
    let count = c.len-count.ensures.length in
    rows_whole c.args.bundle.now c.args.lower c.args.level c.loop-position.position c.loop-position.rows (omega arith)
    c.loop-position.invariant
