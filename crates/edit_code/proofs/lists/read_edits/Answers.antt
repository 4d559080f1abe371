use Rattle.edit_code.proofs.Exits.{first_exit}
use Rattle.std.proofs.Common.{◌-◌, arith, refl, ap, ◌∙◌, true}
use Rattle.std.proofs.lemmas.Bool.{and_from}
use Rattle.byte_forms.specs.Lists.{items_at, times}
use Rattle.edit_rules.specs.Inner.Acts.{is_edit_of}
use Rattle.value_codes.proofs.Loops.{put_front, read_first, read_more, read_done, read_fails}
use Rattle.edit_code.specs.Edits.{inner_form}
use Rattle.edit_code.proofs.ListSteps.{begun_edits, more_edits, together_and}
use Rattle.edit_code.proofs.lists.read_edits.Goals as goal

pub returns-in_err-first : goal.returns-in_err-first
returns-in_err-first c =
    first_exit _ _ c.args.key.now c.args.count c.args.from.now c.read_inner.new.from c.from_residual.ensures.1 (omega arith)
    c.in_err-first.ensures.edit

pub loop-place-init : goal.loop-place-init
loop-place-init c =
    begun_edits c.args.key.now c.args.count c.args.from.now c.read_inner.new.from c.in_ok-first.first c.in_ok-edits.edits
    (omega arith) c.in_ok-first.ensures.edit c.in_ok-first.ensures.inner c.in_ok-edits.ensures

pub push-requires : goal.push-requires
push-requires c = record {
  room = omega (arith, c.loop-place.invariant.2);
  together = together_and c.args.key.now c.loop-place.edits c.in-Ok.edit c.loop-place.invariant.1 c.in-Ok.ensures.inner;
}

pub loop-place-preserved : goal.loop-place-preserved
loop-place-preserved c =
    more_edits c.args.key.now c.args.count c.loop-place._place c.args.from.now c.loop-place.from c.read_inner-in-loop-place.new.from
    c.loop-place.edits c.push.new.self c.in-Ok.edit c.loop-place.invariant.0 c.loop-place.invariant.1 c.loop-place.invariant.2
    (omega arith) c.in-Ok.ensures.edit c.in-Ok.ensures.inner c.in_ok-push-in-Ok.ensures.ok

pub returns-in-Err : goal.returns-in-Err
unfolding times
returns-in-Err c =
    read_fails (inner_form c.args.key.now) (items_at (inner_form c.args.key.now) c.args.count c.args.from.now) c.loop-place.edits c.args.count
    c.loop-place._place c.loop-place.from c.read_inner-in-loop-place.new.from c.in-Err.fault c.loop-place.invariant.0 (omega arith) c.in-Err.ensures.edit

pub returns : goal.returns
unfolding times
returns c =
    read_done (inner_form c.args.key.now) (items_at (inner_form c.args.key.now) c.args.count c.args.from.now) c.loop-place.edits c.args.count
    c.loop-place._place c.loop-place.from c.loop-place.invariant.0 (omega arith)
