use Rattle.script_runs.specs.Cuts.{cut}
use Rattle.script_runs.proofs.BookLemmas.{no_book_ends, new_base, new_low, new_since, new_read, new_keeps}
use Rattle.script_runs.proofs.script.run_configured.Goals as goal

pub returns-in-Err-clause-ran : goal.returns-in-Err-clause-ran
returns-in-Err-clause-ran g c = λ base begin line refusals same low since h.
    no_book_ends g.D.Disk g.met.D.Disk.counts_now begin c.args.config line (cut c.args.past c.args.rest.now) refusals (g.P.PatternMaker.refusals c.args.patterns.now) (g.K.Sink.written c.args.out.now) c.args.past h base c.args.journal c.in-Err.refused.journal c.in-Err.refused.fault c.no_book.result same low since c.requires c.no_book.ensures c.in-Err.ensures.refused c.in-Err.ensures.any_moment_err

pub returns-in-Ok-clause-ran : goal.returns-in-Ok-clause-ran
returns-in-Ok-clause-ran g c = λ base begin line refusals same low since h.
    let n = c.in-Ok.ensures.made in
    let book = c.in-Ok.made.book in
    c.run_made.ensures.ran base begin line refusals
    (new_base g.D.Disk.may_leave g.D.Disk.faults c.args.config c.args.journal book n base same)
    (new_low g.D.Disk.may_leave g.D.Disk.faults c.args.config c.args.journal book n base (g.D.Disk.faults begin) low c.in-Ok.ensures.later)
    (new_since g.D.Disk.may_leave g.D.Disk.faults c.args.config c.args.journal book n g.D.Disk begin since c.in-Ok.ensures.any_moment)
    (new_read g.D.Disk.may_leave g.D.Disk.faults c.args.config c.args.journal book n line refusals (g.P.PatternMaker.refusals c.args.patterns.now) h)
    n.history
    (new_keeps g.D.Disk.may_leave g.D.Disk.faults c.args.config c.args.journal book n)
