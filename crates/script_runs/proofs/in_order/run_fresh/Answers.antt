use Rattle.std.proofs.Common.{ap}
use Rattle.script_runs.proofs.FreshSays.{fresh_unread, fresh_says}
use Rattle.script_runs.proofs.EndLemmas.{told_ended, err_fault}
use Rattle.script_runs.proofs.in_order.run_fresh.Goals as goal

pub returns-in-Err-clause-says : goal.returns-in-Err-clause-says
returns-in-Err-clause-says g c = λ store begin disk over since.
    fresh_unread g.D.Disk store begin disk c.args.journal over.stored over.begins over.low since over.has c.requires (g.S.Source.left c.args.script.now) (g.S.Source.left c.read_front.new.source) (g.S.Source.faults c.args.script.now) (g.S.Source.faults c.read_front.new.source) (g.P.PatternMaker.refusals c.args.patterns.now) c.in-Err.fault c.unread.result (g.K.Sink.written c.args.out.now) (g.K.Sink.faults c.args.out.now) c.unread.ensures (λ e. c.in-Err.ensures.failed (ap err_fault e))

pub returns-in-Ok-clause-says : goal.returns-in-Ok-clause-says
returns-in-Ok-clause-says g c = λ store begin disk over since.
    fresh_says g.D.Disk store begin disk c.args.journal over.stored over.begins over.low since c.run_script-ended.result.journal over.has c.run_script-ended.ensures.stored (g.S.Source.left c.args.script.now) (g.S.Source.left c.read_front.new.source) (g.S.Source.faults c.args.script.now) (g.S.Source.faults c.read_front.new.source) (g.P.PatternMaker.refusals c.args.patterns.now) (g.P.PatternMaker.refusals c.run_script-ended.new.patterns) c.in-Ok.front.past c.in-Ok.front.bytes.items c.in-Ok.ensures.front c.in-Ok.ensures.taken c.run_script-ended.result.ended c.close_run.result (g.K.Sink.written c.args.out.now) (g.K.Sink.written c.run_script-ended.new.out) (g.K.Sink.written c.close_run.new.out) (g.K.Sink.faults c.args.out.now) (g.K.Sink.faults c.run_script-ended.new.out) (g.K.Sink.faults c.close_run.new.out)
    (λ base b same l s. rw c.as_slice-bytes.ensures.value at c.run_script-ended.ensures.ran base b same l s) c.run_script-ended.ensures.cause c.run_script-ended.ensures.later c.close_run.ensures.later c.close_run.ensures.closes

pub close_run-requires : goal.close_run-requires
close_run-requires g c = told_ended c.run_script-ended.result.ended _ _ c.run_script-ended.ensures.cause
