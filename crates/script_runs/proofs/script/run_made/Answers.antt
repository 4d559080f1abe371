use Rattle.std.proofs.Common.{◌∷◌, None, sym, ◌∙◌, ap, subst}
use Rattle.live_run.specs.live_book.Kept.{KeepsIn}
use Rattle.live_run.specs.live_book.Commits.{has_journal}
use Rattle.program_output.specs.declared.ended.Ended.TheVariants as ends
use Rattle.script_runs.specs.Inner.Bases.{fresh_base}
use Rattle.script_runs.specs.Cuts.{cut}
use Rattle.script_runs.specs.Inner.Reached.{DuringStart, IsBegun, IsBeginOf, LeavesSince}
use Rattle.script_runs.proofs.FreshLemmas.{fresh_broke}
use Rattle.script_runs.proofs.BookLemmas.{of_journal, end_journal}
use Rattle.script_runs.proofs.script.run_made.Goals as goal

pub returns-in-Err-clause-ran : goal.returns-in-Err-clause-ran
returns-in-Err-clause-ran g c = λ base begin line refusals same low since h none keeps.
    end_journal g.D.Disk ends.Memory base begin c.args.past (line ∷ cut c.args.past c.args.rest.now) refusals (g.P.PatternMaker.refusals c.args.patterns.now) (g.K.Sink.written c.args.out.now) (g.K.Sink.written c.args.out.now) c.args.made.book.journal c.into_journal.result (c.into_journal.ensures.journal ∙ ap (λ b. b.journal) c.in-Err.ensures.err)
    (fresh_broke g.D.Disk begin base c.args.made.book.journal same low c.args.made.book.config c.args.past line (cut c.args.past c.args.rest.now) refusals (g.P.PatternMaker.refusals c.args.patterns.now) (g.K.Sink.written c.args.out.now) since h keeps)

pub returns-in-Ok-clause-ran : goal.returns-in-Ok-clause-ran
returns-in-Ok-clause-ran g c = λ base begin line refusals same low since h none keeps.
    let b = c.in-Ok.ensures.ok (subst (λ hs. KeepsIn g.D.Disk.may_leave c.args.made.book.config hs None c.args.made.book.journal) (sym none) keeps) in
    let here = c.in-Ok.ensures.stored in
    of_journal g.D.Disk c.run_begun-ended.result base begin c.args.past (line ∷ cut c.args.past c.args.rest.now) refusals (g.P.PatternMaker.refusals c.run_begun-ended.new.patterns) (g.K.Sink.written c.args.out.now) (g.K.Sink.written c.run_begun-ended.new.out) c.run_begun-ended.new.running.core.book.journal c.close.result c.close.ensures
    (c.run_begun-ended.ensures.ran base begin c.args.made.book.config line refusals (same ∙ ap (λ j. fresh_base (has_journal j)) (sym here)) (subst (λ j. IsBeginOf g.D.Disk.faults base j (g.D.Disk.faults begin)) (sym here) low) (subst (λ j. LeavesSince g.D.Disk begin j (DuringStart (g.D.Disk.may_leave begin) c.args.made.book.config)) (sym here) since) h (subst (λ hs. IsBegun g.D.Disk.may_leave c.args.made.book.config hs 1 c.in-Ok.running) none b))
