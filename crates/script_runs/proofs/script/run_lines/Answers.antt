use Rattle.std.proofs.Common.{◌++◌}
use Rattle.script_runs.specs.Cuts.{cut}
use Rattle.script_runs.specs.Inner.Reached.{IsRunKept, IsRunFailed}
use Rattle.script_runs.proofs.RunLemmas.{ends_other, past_end, whole_end}
use Rattle.script_runs.proofs.script.run_lines.Goals as goal

pub returns-in-Err-clause-ran : goal.returns-in-Err-clause-ran
returns-in-Err-clause-ran g c = λ base begin config lines refusals before r.
    ends_other base (IsRunKept g.D.Disk base begin c.run_rest.new.running.core.book.journal) c.in-Err.end (IsRunFailed g.D.Disk begin c.run_rest.new.running.core.book.journal) c.args.past (lines ++ cut c.args.past c.args.rest.now) refusals (g.P.PatternMaker.refusals c.run_rest.new.patterns) before (g.K.Sink.written c.run_rest.new.out) (c.in-Err.ensures.ran base begin config lines refusals before r)

pub returns-then-past-clause-ran : goal.returns-then-past-clause-ran
returns-then-past-clause-ran g c = λ base begin config lines refusals before r.
    past_end base (IsRunKept g.D.Disk base begin c.run_rest.new.running.core.book.journal) c.args.past (lines ++ cut c.args.past c.args.rest.now) refusals (g.P.PatternMaker.refusals c.run_rest.new.patterns) before (g.K.Sink.written c.run_rest.new.out) c.if-past.true (c.in-Ok.ensures.ran base begin config lines refusals before r)

pub returns-clause-ran : goal.returns-clause-ran
returns-clause-ran g c = λ base begin config lines refusals before r.
    whole_end base (IsRunKept g.D.Disk base begin c.run_rest.new.running.core.book.journal) c.args.past (lines ++ cut c.args.past c.args.rest.now) refusals (g.P.PatternMaker.refusals c.run_rest.new.patterns) before (g.K.Sink.written c.run_rest.new.out) c.if-past.false (c.in-Ok.ensures.ran base begin config lines refusals before r)
