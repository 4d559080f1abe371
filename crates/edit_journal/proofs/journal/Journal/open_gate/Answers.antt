use Rattle.std.proofs.Common.{◌+◌, Some, inl, refl, ap, arith}
use Rattle.emu_disk.proofs.Moments.{weaker}
use Rattle.edit_journal.specs.Inner.Held.{MayHave}
use Rattle.edit_journal.proofs.Kept.{reaches, open_ok, open_err, open_may, on_err}
use Rattle.edit_journal.proofs.journal.Journal.open_gate.Goals as goal

pub write_safely-requires : goal.write_safely-requires
write_safely-requires g c = λ xs reads. omega (arith, reaches g.D.Disk.may_leave c.args.self.now c.requires.held (inl c.requires.closed) xs (g.met.D.Disk.as_read _ xs reads))

pub returns-in_err-write_safely-clause-err : goal.returns-in_err-write_safely-clause-err
returns-in_err-write_safely-clause-err g c = λ texts is_staged. on_err _ (open_err g.D.Disk.may_leave texts c.args.frame.now c.args.self.now _ c.requires.fits is_staged refl refl c.write_safely.ensures.crash)

pub returns-in_err-write_safely-clause-any_moment : goal.returns-in_err-write_safely-clause-any_moment
returns-in_err-write_safely-clause-any_moment g c = λ texts is_staged.
    weaker g.D.Disk.moment g.D.Disk.left_since _ _ _ (MayHave texts (Some c.args.frame.now)) (open_may g.D.Disk.may_leave texts c.args.frame.now c.args.self.now c.args.self.now c.requires.fits is_staged) c.write_safely.ensures.any_moment

pub returns-clause-ok : goal.returns-clause-ok
returns-clause-ok g c = λ texts is_staged.
    open_ok g.D.Disk.may_leave texts c.args.frame.now c.args.self.now _ c.requires.fits is_staged refl (ap (λ n. c.args.self.now.end + (5 + n)) c.len.ensures.len) c.in_ok-write_safely.ensures.done

pub returns-clause-any_moment : goal.returns-clause-any_moment
returns-clause-any_moment g c = λ texts is_staged.
    weaker g.D.Disk.moment g.D.Disk.left_since _ _ _ (MayHave texts (Some c.args.frame.now)) (open_may g.D.Disk.may_leave texts c.args.frame.now c.args.self.now c.args.self.now c.requires.fits is_staged) c.write_safely.ensures.any_moment
