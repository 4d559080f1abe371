use Rattle.std.proofs.Common.{arith}
use Rattle.json_view.specs.Inner.Seen.{seen_at}
use Rattle.script_lines.proofs.Listed.{first_stops, read_ends, read_first, read_more, read_stops, together_more}
use Rattle.script_lines.proofs.lists.listed_edits.Goals as goal

pub returns-in_err-first : goal.returns-in_err-first
returns-in_err-first c =
    first_stops c.from_residual-in_err-first.result _ c.args.key.now (seen_at c.args.view.now) _ _ c.from_residual-in_err-first.ensures.1
    c.in_ok-count.ensures.list c.in_ok-head.ensures.element c.in_err-first.ensures

pub loop-place-init : goal.loop-place-init
loop-place-init c =
    read_first c.args.key.now (seen_at c.args.view.now) _ c.in_ok-first.first c.in_ok-edits.edits
    c.in_ok-head.ensures.element c.in_ok-first.ensures c.in_ok-edits.ensures

pub push-requires : goal.push-requires
push-requires c = record {
  room = omega (arith, c.loop-place.invariant.counted, c.in_ok-count.ensures.few);
  together = together_more c.args.key.now c.loop-place.edits _ c.in-Ok.edit c.loop-place.invariant.own c.in-Ok.ensures;
}

pub loop-place-preserved : goal.loop-place-preserved
loop-place-preserved c =
    read_more c.args.key.now (seen_at c.args.view.now) _ c.loop-place.edits c.push.new.self c.in-Ok.edit c.loop-place.place
    c.loop-place.invariant c.in_ok-part.ensures.element c.in-Ok.ensures c.in_ok-push-in-Ok.ensures.ok

pub returns-in-Err : goal.returns-in-Err
returns-in-Err c told =
    read_stops c.args.key.now (seen_at c.args.view.now) _ c.loop-place.edits c.in-Err.fault c.loop-place.place _
    c.in_ok-count.ensures.list c.loop-place.invariant.whole c.in_ok-part.ensures.element (c.in-Err.ensures told)

pub returns : goal.returns
returns c =
    read_ends c.args.key.now (seen_at c.args.view.now) c.loop-place.edits c.loop-place.place _
    c.in_ok-count.ensures.list c.loop-place.invariant (omega (arith, c.in_ok-count.ensures.count))
