use Rattle.std.proofs.Common.{arith}
use Rattle.hier_closure.specs.Dominance.{closure_of}
use Rattle.hier_closure.proofs.Agree.{agree_whole, row_more, rows_long}
use Rattle.hier_closure.proofs.Places.{own_of, ready_at}
use Rattle.hier_closure.proofs.asked.rows_where.Goals as goal

pub of_item-children-requires : goal.of_item-children-requires
of_item-children-requires c =
    let long = c.requires.asked in
    let count = c.len-count.ensures in
    (own_of c.args.bundle.now c.args.stands.now c.args.level c.index-stands-level.result c.requires.stands c.requires.level
    c.index-stands-level.is).cuts c.loop-position.position (omega arith)

pub row_where-requires-clause-ready : goal.row_where-requires-clause-ready
row_where-requires-clause-ready c =
    let long = c.requires.asked in
    let count = c.len-count.ensures in
    ready_at c.args.bundle.now c.args.lower c.args.level c.loop-position.position c.args.table.now c.args.stands.now
    c.index-stands-level.result c.of_item-children.result.now c.requires.stands c.requires.made c.requires.level
    c.index-stands-level.is (omega arith) c.of_item-children.ensures

pub loop-position-preserved : goal.loop-position-preserved
loop-position-preserved c =
    let long = c.requires.asked in
    let count = c.len-count.ensures in
    row_more c.args.bundle.now c.args.lower c.args.level c.loop-position.position c.args.stands.now c.index-stands-level.result
    c.of_item-children.result.now c.args.asked.now c.get-is_asked.result c.in_ok-row.row c.loop-position.rows c.push.new.self
    c.requires.stands c.requires.level c.index-stands-level.is (omega arith) c.of_item-children.ensures c.get-is_asked.ensures
    c.in_ok-row.ensures.wide c.in_ok-row.ensures.asked c.loop-position.invariant c.in_ok-push.ensures.ok

pub returns : goal.returns
returns c =
    let long = rows_long c.args.bundle.now c.args.lower c.args.level in
    let asked = c.requires.asked in
    let count = c.len-count.ensures in
    agree_whole c.args.asked.now (closure_of c.args.bundle.now c.args.lower c.args.level) c.loop-position.rows c.loop-position.position
    c.loop-position.invariant (omega arith)
