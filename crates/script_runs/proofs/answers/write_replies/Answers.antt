use Rattle.std.proofs.Common.{arith}
use Rattle.program_output.specs.reply_texts.Texts.{reply_text}
use Rattle.script_runs.proofs.AnswerLemmas.{loop_broke, loop_more, loop_none, end_later}
use Rattle.script_runs.proofs.answers.write_replies.Goals as goal

pub loop-reply-init : goal.loop-reply-init
loop-reply-init g c = (loop_none _, omega arith)

pub loop-reply-preserved : goal.loop-reply-preserved
loop-reply-preserved g c = (
  loop_more reply_text c.as_slice-reply-items.result.now c.loop-reply.reply-index c.reply-item.result (g.K.Sink.written c.args.out.now) (g.K.Sink.written c.loop-reply.out) (g.K.Sink.written c.write_reply.new.out) (omega arith) c.reply-item.is c.loop-reply.invariant.0 c.in-Ok.ensures.output,
  omega (arith, c.loop-reply.invariant.1, c.in-Ok.ensures.later),
)

pub returns-in-Err-clause-output : goal.returns-in-Err-clause-output
returns-in-Err-clause-output g c =
    rw (← c.as_slice-reply-items.ensures) (loop_broke (Unit {0}) (Unit {0}) reply_text c.as_slice-reply-items.result.now c.loop-reply.reply-index c.reply-item.result c.in-Err.end (g.K.Sink.written c.args.out.now) (g.K.Sink.written c.loop-reply.out) (g.K.Sink.written c.write_reply.new.out) (omega arith) c.reply-item.is c.loop-reply.invariant.0 c.in-Err.ensures.output)

pub returns-in-Err-clause-cause : goal.returns-in-Err-clause-cause
returns-in-Err-clause-cause g c = end_later c.in-Err.end (g.K.Sink.faults c.args.out.now) (g.K.Sink.faults c.loop-reply.out) (g.K.Sink.faults c.write_reply.new.out) c.loop-reply.invariant.1 c.in-Err.ensures.cause
