use Rattle.std.proofs.Common.{inr, refl, arith}
use Rattle.emu_disk.proofs.Moments.{weaker}
use Rattle.edit_journal.specs.Inner.Held.{MayHave}
use Rattle.edit_journal.proofs.Kept.{reaches, shut_err, shut_may, on_err}
use Rattle.edit_journal.proofs.journal.Journal.shut.Goals as goal

pub write_safely-requires : goal.write_safely-requires
write_safely-requires g c = λ xs reads. omega (arith, reaches g.D.Disk.may_leave c.args.self.now c.requires.held (inr c.requires.in_doubt) xs (g.met.D.Disk.as_read _ xs reads))

pub returns-in_err-write_safely-clause-err : goal.returns-in_err-write_safely-clause-err
returns-in_err-write_safely-clause-err g c = λ texts lost holds. on_err _ (shut_err g.D.Disk.may_leave texts lost c.args.self.now _ holds refl c.requires.in_doubt c.requires.in_doubt c.write_safely.ensures.crash)

pub returns-in_err-write_safely-clause-any_moment : goal.returns-in_err-write_safely-clause-any_moment
returns-in_err-write_safely-clause-any_moment g c = λ texts lost holds.
    weaker g.D.Disk.moment g.D.Disk.left_since _ _ _ (MayHave texts lost) (shut_may g.D.Disk.may_leave texts lost c.args.self.now c.args.self.now holds refl c.requires.in_doubt) c.write_safely.ensures.any_moment

pub returns-clause-any_moment : goal.returns-clause-any_moment
returns-clause-any_moment g c = λ texts lost holds.
    weaker g.D.Disk.moment g.D.Disk.left_since _ _ _ (MayHave texts lost) (shut_may g.D.Disk.may_leave texts lost c.args.self.now c.args.self.now holds refl c.requires.in_doubt) c.write_safely.ensures.any_moment
