use Rattle.std.proofs.Common.{inl, refl}
use Rattle.std.proofs.lemmas.Result.{on_ok_weaker}
use Rattle.emu_disk.proofs.Moments.{weaker}
use Rattle.edit_journal.specs.Store.{StandsFor}
use Rattle.edit_journal.proofs.Kept.{reaches, stage_ok, stage_err, stage_may, on_err}
use Rattle.edit_journal.proofs.journal.Journal.stage.Goals as goal

pub write_safely-requires : goal.write_safely-requires
write_safely-requires g c = λ xs reads. reaches g.D.Disk.may_leave c.args.self.now c.requires.held (inl c.requires.closed) xs (g.met.D.Disk.as_read _ xs reads)

pub returns-clause-ok : goal.returns-clause-ok
returns-clause-ok g c = λ texts holds.
    let done = rw c.staged.ensures.value at c.write_safely.ensures.done in
    let crash = rw c.staged.ensures.value at c.write_safely.ensures.crash in
    on_ok_weaker _ (λ safe. stage_ok g.D.Disk.may_leave texts c.args.frame.now c.args.self.now _ c.requires.fits holds c.requires.closed c.staged.ensures.sized c.requires.closed refl crash safe) done

pub returns-clause-err : goal.returns-clause-err
returns-clause-err g c = λ texts holds.
    let crash = rw c.staged.ensures.value at c.write_safely.ensures.crash in
    on_err _ (stage_err g.D.Disk.may_leave texts c.args.frame.now c.args.self.now _ c.requires.fits holds c.requires.closed c.requires.closed refl crash)

pub returns-clause-any_moment : goal.returns-clause-any_moment
returns-clause-any_moment g c = λ texts holds.
    let moments = rw c.staged.ensures.value at c.write_safely.ensures.any_moment in
    weaker g.D.Disk.moment g.D.Disk.left_since _ _ _ (StandsFor texts) (stage_may g.D.Disk.may_leave texts c.args.frame.now c.args.self.now c.args.self.now c.requires.fits holds c.requires.closed) moments
