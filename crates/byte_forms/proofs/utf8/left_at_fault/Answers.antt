use Rattle.std.proofs.Common.{◌≡◌, ◌-◌, false, true, get_or, arith}
use Rattle.byte_forms.specs.Utf8.{utf8_form, may_stand}
use Rattle.byte_forms.proofs.TextLaws.{begins_whole, goes_on_at, stops_at, cut_at, done_at, no_text_is_read}
use Rattle.byte_forms.proofs.utf8.left_at_fault.Goals as goal

pub loop-place-init : goal.loop-place-init
loop-place-init c = begins_whole c.args.len c.args.bytes.now

pub returns-then-bytes-place : goal.returns-then-bytes-place
returns-then-bytes-place c =
    cut_at ((utf8_form c.args.len).read c.args.bytes.now) c.args.bytes.now c.args.len c.loop-place.place c.loop-place.ranges.now
    c.loop-place.invariant (omega arith) (omega arith)

pub returns-then-not-may_stand : goal.returns-then-not-may_stand
returns-then-not-may_stand c =
    let fails : may_stand c.loop-place.ranges.now (c.args.len - c.loop-place.place - 1) (get_or c.args.bytes.now c.loop-place.place 0) ≡ false = cc in
    stops_at ((utf8_form c.args.len).read c.args.bytes.now) c.args.bytes.now c.args.len c.loop-place.place c.loop-place.ranges.now
    c.loop-place.invariant (omega arith) (omega arith) fails

pub loop-place-preserved : goal.loop-place-preserved
loop-place-preserved c =
    let stands : may_stand c.loop-place.ranges.now (c.args.len - c.loop-place.place - 1) (get_or c.args.bytes.now c.loop-place.place 0) ≡ true = cc in
    rw c.then_asked-ranges.ensures
    (goes_on_at ((utf8_form c.args.len).read c.args.bytes.now) c.args.bytes.now c.args.len c.loop-place.place c.loop-place.ranges.now
    c.loop-place.invariant (omega arith) (omega arith) stands)

pub returns : goal.returns
returns c =
    done_at ((utf8_form c.args.len).read c.args.bytes.now) c.args.bytes.now c.args.len c.loop-place.place c.loop-place.ranges.now
    c.loop-place.invariant (omega arith)
    (no_text_is_read c.args.len c.args.bytes.now (λ i. omega (arith, c.type_inv.bytes i)) c.requires)
