use Rattle.script_runs.specs.LiveTexts.{entries_text}
use Rattle.std.specs.List.{flat_map}
use Rattle.program_output.specs.reply_texts.Texts.{reply_text}
use Rattle.script_runs.proofs.AnswerLemmas.{texts_behind, texts_broke, cause_later}
use Rattle.script_runs.proofs.answers.write_ended.Goals as goal

pub returns-in-Err-clause-output : goal.returns-in-Err-clause-output
returns-in-Err-clause-output g c = texts_broke (Unit {0}) (Unit {0}) c.in-Err.end (g.K.Sink.written c.args.out.now) (g.K.Sink.written c.write_replies.new.out) (flat_map reply_text c.args.ended.now.replies) (entries_text c.args.ended.now) c.in-Err.ensures.output

pub returns-clause-output : goal.returns-clause-output
returns-clause-output g c = texts_behind c.write_entries.result (g.K.Sink.written c.args.out.now) (g.K.Sink.written c.write_replies.new.out) (g.K.Sink.written c.write_entries.new.out) (flat_map reply_text c.args.ended.now.replies) (entries_text c.args.ended.now) c.in-Ok.ensures.output c.write_entries.ensures.output

pub returns-clause-cause : goal.returns-clause-cause
returns-clause-cause g c = cause_later c.write_entries.result (g.K.Sink.faults c.args.out.now) (g.K.Sink.faults c.write_replies.new.out) (g.K.Sink.faults c.write_entries.new.out) c.in-Ok.ensures.later c.write_entries.ensures.cause
