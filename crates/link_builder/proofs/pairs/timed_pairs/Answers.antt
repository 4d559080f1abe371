use Rattle.std.proofs.Common.{◌≡◌, ◌≤◌, ◌<◌, true, false, nat_le, sym, ◌∙◌, arith}
use Rattle.std.proofs.lemmas.Bool.Decides.{nat_tests}
use Rattle.level_items.specs.Times.{first_sample, last_sample}
use Rattle.link_builder.specs.Timed.{timed_pairs}
use Rattle.link_builder.proofs.Walk.{item_passed, no_item_left, no_segment_left, one_in_time, pair_taken, segment_passed}
use Rattle.link_builder.proofs.pairs.timed_pairs.Goals as goal
use Rattle.link_builder.proofs.pairs.timed_pairs.Goals.{then-loop-place-test+else-at-len, else-loop-place-test}

pub is_over_by-requires-clause-inner : goal.is_over_by-requires-clause-inner
is_over_by-requires-clause-inner c = one_in_time c.args.lower.now c.loop-place.at c.get-item.result.now c.len-in-loop-place.ensures.rule c.get-item.ensures

pub is_over_by-requires-clause-outer : goal.is_over_by-requires-clause-outer
is_over_by-requires-clause-outer c = one_in_time c.args.upper.now c.loop-place.place c.get-segment.result.now c.len.ensures.rule c.get-segment.ensures

pub loop-place-preserved-then-first_sample : goal.loop-place-preserved-then-first_sample
loop-place-preserved-then-first_sample c =
    let s = c.get-segment.result.now in
    let i = c.get-item.result.now in
    let low : first_sample i.time < first_sample s.time = grind (arith, c.first_sample.ensures, c.first_sample-in-loop-place.ensures, c.if-first_sample.true) in
    item_passed c.args.upper.now c.args.lower.now c.requires.upper c.requires.lower c.len.ensures.rule c.len-in-loop-place.ensures.rule c.loop-place.place c.loop-place.at s i
    c.get-segment.ensures c.get-item.ensures (timed_pairs c.args.upper.now.items c.args.lower.now.items) c.loop-place.pairs c.loop-place.invariant low

pub loop-place-preserved-then-is_over_by : goal.loop-place-preserved-then-is_over_by
loop-place-preserved-then-is_over_by c =
    let s = c.get-segment.result.now in
    let i = c.get-item.result.now in
    let low : first_sample s.time ≤ first_sample i.time = grind (arith, c.first_sample.ensures, c.first_sample-in-loop-place.ensures, c.if-first_sample.false) in
    let over : nat_le (last_sample i.time) (last_sample s.time) ≡ true = sym c.is_over_by.ensures ∙ c.if-is_over_by.true in
    pair_taken c.args.upper.now c.args.lower.now c.requires.upper c.requires.lower c.len.ensures.rule c.len-in-loop-place.ensures.rule c.loop-place.place c.loop-place.at s i
    c.get-segment.ensures c.get-item.ensures (timed_pairs c.args.upper.now.items c.args.lower.now.items) c.loop-place.pairs c.loop-place.invariant
    c.push.new.self low (grind (arith, nat_tests, over)) c.in_ok-push.ensures.ok

pub loop-place-preserved : goal.loop-place-preserved
loop-place-preserved c =
    let over : nat_le (last_sample c.get-item.result.now.time) (last_sample c.get-segment.result.now.time) ≡ false = sym c.is_over_by.ensures ∙ c.if-is_over_by.false in
    segment_passed c.args.upper.now c.args.lower.now c.requires.upper c.requires.lower c.len.ensures.rule c.len-in-loop-place.ensures.rule c.loop-place.place c.loop-place.at
    c.get-segment.result.now c.get-item.result.now c.get-segment.ensures c.get-item.ensures (timed_pairs c.args.upper.now.items c.args.lower.now.items) c.loop-place.pairs
    c.loop-place.invariant (grind (arith, nat_tests, over))

pub returns : goal.returns
returns c =
    let upper = c.args.upper.now.items in
    let lower = c.args.lower.now.items in
    let all = timed_pairs upper lower in
    elim c.loop-place-test.branch [
      | then-loop-place-test+else-at-len w ↦ no_item_left upper lower c.loop-place.place c.loop-place.at all c.loop-place.pairs (omega (arith, w.len-in-loop-place.ensures.length, w.if-at-len.false)) c.loop-place.invariant
      | else-loop-place-test w ↦ no_segment_left upper lower c.loop-place.place c.loop-place.at all c.loop-place.pairs (omega (arith, c.len.ensures.length, w.loop-place-test.false)) c.loop-place.invariant
    ]
