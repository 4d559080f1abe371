use Rattle.std.proofs.Common.{[], ◌∷◌, refl}
use Rattle.script_runs.specs.Cuts.{cut}
use Rattle.script_runs.proofs.FreshLemmas.{fresh_unbegun, fresh_begun}
use Rattle.script_runs.proofs.script.run_begun.Goals as goal

pub returns-in-Err-clause-ran : goal.returns-in-Err-clause-ran
returns-in-Err-clause-ran g c = λ base begin config line refusals same low since h b. fresh_unbegun g.D.Disk begin base c.args.running.now.core.book.journal same low (Unit {0}) c.in-Err.end config c.args.past line (cut c.args.past c.args.rest.now) refusals (g.P.PatternMaker.refusals c.args.patterns.now) (g.K.Sink.written c.args.out.now) (g.K.Sink.written c.write_config.new.out) since h b.kept c.in-Err.ensures.output

pub returns-clause-ran : goal.returns-clause-ran
returns-clause-ran g c = λ base begin config line refusals same low since h b.
    c.run_lines.ensures.ran base begin config (line ∷ []) refusals (g.K.Sink.written c.args.out.now) (fresh_begun g.D.Disk begin base c.args.running.now.core.book.journal same low config line c.args.running.now refusals (g.P.PatternMaker.refusals c.args.patterns.now) (g.K.Sink.written c.args.out.now) (g.K.Sink.written c.write_config.new.out) since h b refl c.in-Ok.ensures.output)
