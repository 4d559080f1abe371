use Rattle.std.proofs.Common.{inl, refl, sym, subst}
use Rattle.program_output.specs.declared.ended.Ended.TheVariants as ends
use Rattle.script_runs.specs.Inner.Reached.{IsRunKept, EndsOnLine}
use Rattle.eql_resolve.specs.Made.{times_too_large}
use Rattle.script_runs.proofs.RunLemmas.{ends_unread, reached_blank, runs_request, broke_here}
use Rattle.script_runs.proofs.script.one_line.Goals as goal

pub returns-in-Err-clause-ran : goal.returns-in-Err-clause-ran
returns-in-Err-clause-ran g c = λ base begin config lines refusals before r. ends_unread g.D.Disk base begin config lines c.args.line.now c.args.running.now refusals (g.P.PatternMaker.refusals c.args.patterns.now) (g.P.PatternMaker.refusals c.read_next.new.patterns) before (g.K.Sink.written c.args.out.now) c.in-Err.end r c.in-Err.ensures.next

pub returns-in-Ok-Blank-clause-ran : goal.returns-in-Ok-Blank-clause-ran
returns-in-Ok-Blank-clause-ran g c = λ base begin config lines refusals before r. reached_blank g.D.Disk base begin config lines c.args.line.now c.args.running.now _ refusals (g.P.PatternMaker.refusals c.args.patterns.now) (g.P.PatternMaker.refusals c.read_next.new.patterns) before (g.K.Sink.written c.args.out.now) r (rw c.in-Ok-Blank.field-0-is at c.in-Ok-Blank.ensures.next) refl refl refl

pub returns-in-Ok-clause-ran : goal.returns-in-Ok-clause-ran
returns-in-Ok-clause-ran g c = λ base begin config lines refusals before r. runs_request g.D.Disk base begin c.write_reply.result config lines c.args.line.now c.args.running.now c.take.new.self c.in-Ok-Request.request c.in-Ok.reply refusals (g.P.PatternMaker.refusals c.args.patterns.now) (g.P.PatternMaker.refusals c.read_next.new.patterns) before (g.K.Sink.written c.args.out.now) (g.K.Sink.written c.write_reply.new.out) r (rw c.in-Ok-Request.field-0-is at c.in-Ok-Request.ensures.next) c.in-Ok.ensures.ok c.write_reply.ensures.output

pub returns-in-Err-take-clause-ran : goal.returns-in-Err-take-clause-ran
returns-in-Err-take-clause-ran g c = λ base begin config lines refusals before r.
    let read = rw c.in-Ok-Request.field-0-is at c.in-Ok-Request.ensures.next in
    subst (λ run. EndsOnLine ends.Memory base (IsRunKept g.D.Disk base begin run.core.book.journal) lines c.args.line.now refusals (g.P.PatternMaker.refusals c.read_next.new.patterns) before (g.K.Sink.written c.args.out.now)) (sym c.in-Err-take.ensures.err)
    (inl (broke_here g.D.Disk base begin config lines c.args.running.now (times_too_large read.made) refusals (g.P.PatternMaker.refusals c.args.patterns.now) (g.P.PatternMaker.refusals c.read_next.new.patterns) before (g.K.Sink.written c.args.out.now) r read.rose))
