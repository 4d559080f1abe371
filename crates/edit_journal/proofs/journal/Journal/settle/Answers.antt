use Rattle.emu_disk.proofs.Moments.{started}
use Rattle.edit_journal.specs.Inner.Held.{MayHave}
use Rattle.edit_journal.proofs.Kept.{stands_may}
use Rattle.edit_journal.proofs.journal.Journal.settle.Goals as goal

pub returns-in-Closed-clause-any_moment : goal.returns-in-Closed-clause-any_moment
returns-in-Closed-clause-any_moment g c = λ texts lost holds.
    started g.D.Disk.moment g.D.Disk.left_since c.args.self.now.disk (MayHave texts lost) (λ x left. stands_may g.D.Disk.may_leave texts lost c.args.self.now holds x (g.met.D.Disk.only_now c.args.self.now.disk x left))
