use Rattle.std.proofs.Common.{◌≡◌, ◌∙◌, ℕ, Result, length, sym, subst}
use Rattle.store_texts.specs.declared.faults.CommandFault.{CommandFault}
use Rattle.emudb_files.specs.Stored.{IsFilled}
use Rattle.emudb_files.specs.Wanted.{bundles_wanted}
use Rattle.emudb_files.proofs.Ending.{filled, if_ok_at}
use Rattle.emudb_files.proofs.loading.fill.Goals as goal

pub returns-clause-filled : goal.returns-clause-filled
returns-clause-filled g c =
    let P : Result ℕ CommandFault → Type 0 = λ r. IsFilled g.D.Disk.may_leave g.D.Disk.moment g.D.Disk.left_since
    (g.F.Folder.content c.args.folder.now) (bundles_wanted c.args.name.now) c.args.book.config c.args.book.journal r
    c.with_answer.result.journal in
    subst P (sym c.with_answer.ensures.answer)
    (filled g.D.Disk.may_leave g.D.Disk.moment g.D.Disk.left_since (g.F.Folder.content c.args.folder.now) (bundles_wanted c.args.name.now) c.args.book
    c.add_counted-answer.new.book c.add_counted-answer.result c.with_answer.result.journal c.requires.empty
    c.add_counted-answer.ensures.goes
    (if_ok_at (λ n. n ≡ length c.add_counted-answer.new.book.history) c.add_counted-answer.result
    c.add_counted-answer.ensures.count)
    (sym (c.with_answer.ensures.journal ∙ c.into_journal.ensures.journal)))
