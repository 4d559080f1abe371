use Rattle.std.proofs.Common.{true, arith}
use Rattle.std.proofs.lemmas.Option.{slice_get_within}
use Rattle.lane_bits.proofs.Spans.{added_none, added_more, added_all}
use Rattle.lane_bits.proofs.span.add_singly.Goals as goal

pub loop-at-init : goal.loop-at-init
loop-at-init c = added_none c.args.by c.args.bits.now c.args.into.now

pub loop-at-preserved : goal.loop-at-preserved
loop-at-preserved c =
    added_more c.args.by c.args.bits.now c.args.into.now c.loop-at.into c.set.new.self c.loop-at.from c.in-Some.at c.loop-at.invariant
    c.in-Some.ensures c.requires c.set.ensures

pub overflow_add-from : goal.overflow_add-from
overflow_add-from c =
    let within = slice_get_within c.args.bits.now c.in-Some.at true c.in-Some.ensures.1 in
    let fits = c.requires in
    let count = c.len-count.ensures in
    let range = c.len-count.type_inv in
    let long = c.loop-at.invariant.long in
    omega arith

pub overflow_add-by : goal.overflow_add-by
overflow_add-by c =
    let within = slice_get_within c.args.bits.now c.in-Some.at true c.in-Some.ensures.1 in
    let count = c.len-count.ensures in
    let range = c.len-count.type_inv in
    let long = c.loop-at.invariant.long in
    let fits = c.requires in
    omega arith

pub set-requires : goal.set-requires
set-requires c =
    let within = slice_get_within c.args.bits.now c.in-Some.at true c.in-Some.ensures.1 in
    let fits = c.requires in
    let long = c.loop-at.invariant.long in
    omega arith

pub loop-at-smaller : goal.loop-at-smaller
loop-at-smaller c =
    let within = slice_get_within c.args.bits.now c.in-Some.at true c.in-Some.ensures.1 in
    let order = c.in-Some.ensures.0 in
    omega arith

pub returns : goal.returns
returns c = added_all c.args.by c.args.bits.now c.args.into.now c.loop-at.into c.loop-at.from c.loop-at.invariant c.in_default.ensures
