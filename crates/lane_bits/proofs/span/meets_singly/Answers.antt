use Rattle.std.proofs.Common.{true, sym, arith}
use Rattle.std.proofs.lemmas.Option.{slice_get_within}
use Rattle.lane_bits.proofs.Spans.{meets_first, meets_more, meets_here, meets_nowhere}
use Rattle.lane_bits.proofs.span.meets_singly.Goals as goal

pub loop-at-init : goal.loop-at-init
loop-at-init c = (omega arith, meets_first c.args.by c.args.bits.now c.args.other.now)

pub loop-at-preserved : goal.loop-at-preserved
loop-at-preserved c =
    let within = slice_get_within c.args.bits.now c.in-Some.at true c.in-Some.ensures.1 in (
      omega arith,
      meets_more c.args.by c.args.bits.now c.args.other.now c.loop-at.from c.in-Some.at c.loop-at.invariant.1 c.in-Some.ensures c.if-get.ensures,
    )

pub overflow_add-from : goal.overflow_add-from
overflow_add-from c =
    let within = slice_get_within c.args.bits.now c.in-Some.at true c.in-Some.ensures.1 in
    let fits = c.requires in
    let count = c.len-count.ensures in
    let range = c.len-count.type_inv in
    omega arith

pub loop-at-smaller : goal.loop-at-smaller
loop-at-smaller c =
    let within = slice_get_within c.args.bits.now c.in-Some.at true c.in-Some.ensures.1 in
    let order = c.in-Some.ensures.0 in
    omega arith

pub returns : goal.returns
returns c =
    sym (meets_nowhere c.args.by c.args.bits.now c.args.other.now c.requires c.loop-at.from c.loop-at.invariant.1 c.in_default.ensures)

pub returns-then-get : goal.returns-then-get
returns-then-get c =
    sym (meets_here c.args.by c.args.bits.now c.args.other.now c.requires c.in-Some.at c.in-Some.ensures.1 c.if-get.ensures)
