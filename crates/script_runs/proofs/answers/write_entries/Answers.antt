use Rattle.script_runs.specs.LiveTexts.{text_of_mark}
use Rattle.std.specs.List.{flat_map}
use Rattle.program_output.specs.Texts.{from_text}
use Rattle.script_runs.proofs.AnswerLemmas.{texts_behind, texts_broke, texts_one_err, cause_later}
use Rattle.script_runs.proofs.answers.write_entries.Goals as goal

pub returns-in-Err-clause-output : goal.returns-in-Err-clause-output
returns-in-Err-clause-output g c = texts_broke (Unit {0}) (Unit {0}) c.in-Err.end (g.K.Sink.written c.args.out.now) (g.K.Sink.written c.write_from.new.out) (from_text c.args.ended.now.from) (flat_map text_of_mark c.args.ended.now.marks) (texts_one_err (Unit {0}) (Unit {0}) c.in-Err.end (g.K.Sink.written c.args.out.now) (g.K.Sink.written c.write_from.new.out) (from_text c.args.ended.now.from) c.in-Err.ensures.output)

pub returns-clause-output : goal.returns-clause-output
returns-clause-output g c = texts_behind c.write_marks.result (g.K.Sink.written c.args.out.now) (g.K.Sink.written c.write_from.new.out) (g.K.Sink.written c.write_marks.new.out) (from_text c.args.ended.now.from) (flat_map text_of_mark c.args.ended.now.marks) c.in-Ok.ensures.output c.write_marks.ensures.output

pub returns-clause-cause : goal.returns-clause-cause
returns-clause-cause g c = cause_later c.write_marks.result (g.K.Sink.faults c.args.out.now) (g.K.Sink.faults c.write_from.new.out) (g.K.Sink.faults c.write_marks.new.out) c.in-Ok.ensures.later c.write_marks.ensures.cause
