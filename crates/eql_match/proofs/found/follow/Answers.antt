use Rattle.std.proofs.Common.{arith}
use Rattle.eql_rows.proofs.Walk.{next_flag}
use Rattle.eql_match.proofs.Steps.{follow_step, follow_end}
use Rattle.eql_match.proofs.found.follow.Goals as goal

pub overflow_add-from : goal.overflow_add-from
overflow_add-from c =
    let next = next_flag c.args.lefts.now c.loop-at.from c.in-Some.at c.in-Some.ensures in
    let here = next.within in
    let few = c.requires in
    omega arith

pub put_followed-requires : goal.put_followed-requires
put_followed-requires c =
    let next = next_flag c.args.lefts.now c.loop-at.from c.in-Some.at c.in-Some.ensures in
    let here = next.within in
    let few = c.requires in
    omega arith

pub loop-at-preserved : goal.loop-at-preserved
loop-at-preserved c =
    let next = next_flag c.args.lefts.now c.loop-at.from c.in-Some.at c.in-Some.ensures in
    let here = next.within in
    record {
      within = omega arith;
      made = follow_step c.args.lefts.now c.args.rights.now c.loop-at.from c.in-Some.at c.loop-at.made c.put_followed.new.made next
          c.loop-at.invariant.made c.in_ok-put_followed.ensures;
    }

pub loop-at-smaller : goal.loop-at-smaller
loop-at-smaller c =
    let next = next_flag c.args.lefts.now c.loop-at.from c.in-Some.at c.in-Some.ensures in
    let here = next.within in
    let order = next.order in
    omega arith

pub returns : goal.returns
returns c =
    follow_end c.args.lefts.now c.args.rights.now c.loop-at.from c.loop-at.made c.in_default.ensures c.loop-at.invariant.within
    c.loop-at.invariant.made
