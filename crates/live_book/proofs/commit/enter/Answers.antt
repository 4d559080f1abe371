use Rattle.std.proofs.Common.{Ok, Err, inl, inr, refl}
use Rattle.version_steps.specs.edit_rules.declared.commit_fault.EditFault.TheVariants as edit_faults
use Rattle.live_book.specs.Kept.{IsAsBefore}
use Rattle.live_book.specs.Inner.Kept.{DuringStore}
use Rattle.live_book.specs.Commits.{DuringCommit}
use Rattle.live_book.proofs.Storing.{quiet}
use Rattle.live_book.proofs.Committing.{on_any, crash_weaker, ok_moment, disk_moment}
use Rattle.live_book.proofs.commit.enter.Goals as goal

pub returns-in_err-push-clause-err : goal.returns-in_err-push-clause-err
returns-in_err-push-clause-err g c = λ config history lost keeps follows.
    on_any c.from_residual.result (IsAsBefore g.D.Disk.may_leave config history lost c.args.entry.now c.args.journal.now)
    (record { left = lost; keeps = keeps; which = inr (inl refl) })

pub returns-in_err-push-clause-any_moment : goal.returns-in_err-push-clause-any_moment
returns-in_err-push-clause-any_moment g c = λ config history lost keeps follows.
    quiet g.D.Disk.may_leave g.D.Disk.moment g.D.Disk.left_since g.met.D.Disk.only_now config history lost c.args.journal.now
    (DuringCommit c.from_residual.result config history lost c.args.entry.now) keeps (λ image stands. inl stands)

pub returns-in-Ok-clause-any_moment : goal.returns-in-Ok-clause-any_moment
returns-in-Ok-clause-any_moment g c = λ config history lost keeps follows.
    crash_weaker g.D.Disk.may_leave g.D.Disk.moment g.D.Disk.left_since c.args.journal.now c.append_in.new.journal
    (DuringStore config history lost c.args.entry.now) (DuringCommit {T = Unit {0}} (Ok tt) config history lost c.args.entry.now)
    (ok_moment config history lost c.args.entry.now) (c.append_in.ensures.any_moment config history lost keeps follows)

pub returns-in-Err-clause-any_moment : goal.returns-in-Err-clause-any_moment
returns-in-Err-clause-any_moment g c = λ config history lost keeps follows.
    crash_weaker g.D.Disk.may_leave g.D.Disk.moment g.D.Disk.left_since c.args.journal.now c.append_in.new.journal
    (DuringStore config history lost c.args.entry.now) (DuringCommit {T = Unit {0}} (Err edit_faults.Disk) config history lost c.args.entry.now)
    (disk_moment (Unit {0}) config history lost c.args.entry.now) (c.append_in.ensures.any_moment config history lost keeps follows)
