use Rattle.std.proofs.Common.{arith, sym}
use Rattle.std.proofs.lemmas.Option.{get_or_from_slice_get}
use Rattle.script_runs.specs.LiveTexts.{text_of_mark}
use Rattle.script_runs.proofs.AnswerLemmas.{loop_all, loop_broke, loop_more, loop_none, end_later}
use Rattle.script_runs.proofs.answers.write_marks.Goals as goal

pub loop-place-init : goal.loop-place-init
loop-place-init g c = (loop_none _, omega arith)

pub loop-place-preserved : goal.loop-place-preserved
loop-place-preserved g c = (
  loop_more text_of_mark c.args.marks.now c.loop-place.place c.get-mark.result.now (g.K.Sink.written c.args.out.now) (g.K.Sink.written c.loop-place.out) (g.K.Sink.written c.write_mark.new.out) (omega arith)
      (sym (get_or_from_slice_get c.args.marks.now c.loop-place.place c.get-mark.result.now c.get-mark.result.now c.get-mark.ensures)) c.loop-place.invariant.0 c.in-Ok.ensures.output,
  omega (arith, c.loop-place.invariant.1, c.in-Ok.ensures.later),
)

pub returns-clause-output : goal.returns-clause-output
returns-clause-output g c = loop_all text_of_mark c.args.marks.now c.loop-place.place (g.K.Sink.written c.args.out.now) (g.K.Sink.written c.loop-place.out) (omega arith) c.loop-place.invariant.0

pub returns-in-Err-clause-output : goal.returns-in-Err-clause-output
returns-in-Err-clause-output g c =
    loop_broke (Unit {0}) (Unit {0}) text_of_mark c.args.marks.now c.loop-place.place c.get-mark.result.now c.in-Err.end (g.K.Sink.written c.args.out.now) (g.K.Sink.written c.loop-place.out) (g.K.Sink.written c.write_mark.new.out) (omega arith)
    (sym (get_or_from_slice_get c.args.marks.now c.loop-place.place c.get-mark.result.now c.get-mark.result.now c.get-mark.ensures)) c.loop-place.invariant.0 c.in-Err.ensures.output

pub returns-in-Err-clause-cause : goal.returns-in-Err-clause-cause
returns-in-Err-clause-cause g c = end_later c.in-Err.end (g.K.Sink.faults c.args.out.now) (g.K.Sink.faults c.loop-place.out) (g.K.Sink.faults c.write_mark.new.out) c.loop-place.invariant.1 c.in-Err.ensures.cause
