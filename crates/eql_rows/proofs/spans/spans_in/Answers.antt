use Rattle.std.proofs.Common.{arith}
use Rattle.eql_rows.proofs.Walk.{next_flag, span_step, span_end}
use Rattle.eql_rows.proofs.spans.spans_in.Goals as goal

pub overflow_add-from : goal.overflow_add-from
overflow_add-from c =
    let next = next_flag c.args.row.now c.loop-at.from c.in-Some.at c.in-Some.ensures in
    let here = next.within in
    let few = c.requires.few in
    omega arith

pub item_span-requires-clause-few : goal.item_span-requires-clause-few
item_span-requires-clause-few c =
    let next = next_flag c.args.row.now c.loop-at.from c.in-Some.at c.in-Some.ensures in
    let here = next.within in
    let few = c.requires.few in
    omega arith

pub loop-at-preserved : goal.loop-at-preserved
loop-at-preserved c =
    let next = next_flag c.args.row.now c.loop-at.from c.in-Some.at c.in-Some.ensures in
    let here = next.within in
    record {
      within = omega arith;
      made = span_step c.args.place c.args.row.now c.loop-at.from c.in-Some.at c.loop-at.made c.push.new.self c.item_span.result next
          c.loop-at.invariant.made c.item_span.ensures c.in_ok-push.ensures.ok;
    }

pub loop-at-smaller : goal.loop-at-smaller
loop-at-smaller c =
    let next = next_flag c.args.row.now c.loop-at.from c.in-Some.at c.in-Some.ensures in
    let here = next.within in
    let order = next.order in
    omega arith

pub returns : goal.returns
returns c =
    span_end c.args.place c.args.row.now c.loop-at.from c.loop-at.made c.in_default.ensures c.loop-at.invariant.within c.loop-at.invariant.made
