use Rattle.edit_journal.proofs.Kept.{stands_may}
use Rattle.edit_journal.proofs.journal.Journal.stands.Goals as goal

pub returns : goal.returns
returns g c = λ texts lost holds x image. stands_may g.D.Disk.may_leave texts lost c.args.self.now holds x image
