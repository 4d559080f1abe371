use Rattle.std.proofs.Common.{[], sym, ◌∙◌, ap, subst}
use Rattle.live_run.specs.live_book.Commits.{has_journal}
use Rattle.script_runs.specs.Bases.{store_of}
use Rattle.program_output.specs.declared.ended.Ended.TheVariants as ends
use Rattle.script_runs.specs.Cuts.{cut}
use Rattle.script_runs.specs.Inner.Reached.{IsBeginOf, LeavesSince}
use Rattle.script_runs.proofs.RunLemmas.{over_store}
use Rattle.script_runs.proofs.BookLemmas.{of_journal, end_journal, broke_store}
use Rattle.script_runs.proofs.script.run_over.Goals as goal

pub returns-in-Err-clause-ran : goal.returns-in-Err-clause-ran
returns-in-Err-clause-ran g c = λ begin low since keeps.
    end_journal g.D.Disk ends.Memory (store_of c.args.book.config c.args.book.history) begin c.args.past (cut c.args.past c.args.bytes.now) (g.P.PatternMaker.refusals c.args.patterns.now) (g.P.PatternMaker.refusals c.args.patterns.now) (g.K.Sink.written c.args.out.now) (g.K.Sink.written c.args.out.now) c.args.book.journal c.into_journal.result (c.into_journal.ensures.journal ∙ ap (λ b. b.journal) c.in-Err.ensures.err)
    (broke_store g.D.Disk begin c.args.book.config c.args.book.history c.args.book.journal c.requires.stored low since keeps (cut c.args.past c.args.bytes.now) (g.P.PatternMaker.refusals c.args.patterns.now) (g.K.Sink.written c.args.out.now))

pub returns-in-Ok-clause-ran : goal.returns-in-Ok-clause-ran
returns-in-Ok-clause-ran g c = λ begin low since keeps.
    let here = c.in-Ok.ensures.stored in
    let base = store_of c.args.book.config c.args.book.history in
    of_journal g.D.Disk c.run_lines-ended.result base begin c.args.past (cut c.args.past c.args.bytes.now) (g.P.PatternMaker.refusals c.args.patterns.now) (g.P.PatternMaker.refusals c.run_lines-ended.new.patterns) (g.K.Sink.written c.args.out.now) (g.K.Sink.written c.run_lines-ended.new.out) c.run_lines-ended.new.running.core.book.journal c.close.result c.close.ensures
    (c.run_lines-ended.ensures.ran base begin c.args.book.config [] (g.P.PatternMaker.refusals c.args.patterns.now) (g.K.Sink.written c.args.out.now)
    (over_store g.D.Disk begin c.args.book.config c.args.book.history c.in-Ok.running (g.P.PatternMaker.refusals c.args.patterns.now) (g.K.Sink.written c.args.out.now) (c.in-Ok.ensures.ok keeps) (ap (λ j. has_journal j) here ∙ c.requires.stored) (subst (λ j. IsBeginOf g.D.Disk.faults base j (g.D.Disk.faults begin)) (sym here) low) (subst (λ j. LeavesSince g.D.Disk begin j (g.D.Disk.may_leave begin)) (sym here) since)))
