use Rattle.std.proofs.Common.{sym, subst}
use Rattle.script_runs.specs.Cuts.{cut}
use Rattle.script_runs.specs.Inner.Reached.{IsRunKept, IsRunFailed, RunsScript}
use Rattle.script_runs.proofs.FreshLemmas.{fresh_first, fresh_lines}
use Rattle.script_runs.proofs.script.run_script.Goals as goal

pub returns-in-None-clause-ran : goal.returns-in-None-clause-ran
returns-in-None-clause-ran g c = λ base begin same low since.
    fresh_lines g.D.Disk begin base c.args.journal same low since c.requires c.empty.result c.args.past (cut c.args.past c.args.bytes.now) (g.P.PatternMaker.refusals c.args.patterns.now) (g.K.Sink.written c.args.out.now) c.empty.ensures c.in-None.ensures.lines

pub returns-in-Err-clause-ran : goal.returns-in-Err-clause-ran
returns-in-Err-clause-ran g c = λ base begin same low since.
    fresh_first g.D.Disk begin base c.args.journal same low since c.requires c.in-Err.end c.args.past c.in-Some.line.now (cut c.args.past c.in-Some.rest.now) (cut c.args.past c.args.bytes.now) (g.P.PatternMaker.refusals c.args.patterns.now) (g.P.PatternMaker.refusals c.read_config.new.patterns) (g.K.Sink.written c.args.out.now) c.in-Some.ensures.lines c.in-Err.ensures.read

pub returns-in-Ok-clause-ran : goal.returns-in-Ok-clause-ran
returns-in-Ok-clause-ran g c = λ base begin same low since.
    subst (λ ls. RunsScript c.run_configured.result.ended base (IsRunKept g.D.Disk base begin c.run_configured.result.journal) (IsRunFailed g.D.Disk begin c.run_configured.result.journal) c.args.past ls (g.P.PatternMaker.refusals c.args.patterns.now) (g.P.PatternMaker.refusals c.run_configured.new.patterns) (g.K.Sink.written c.args.out.now) (g.K.Sink.written c.run_configured.new.out)) (sym c.in-Some.ensures.lines)
    (c.run_configured.ensures.ran base begin c.in-Some.line.now (g.P.PatternMaker.refusals c.args.patterns.now) same low since c.in-Ok.ensures.read)
