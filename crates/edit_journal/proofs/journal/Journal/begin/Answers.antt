use Rattle.std.proofs.Common.{refl}
use Rattle.edit_journal.proofs.Kept.{begun_ok}
use Rattle.edit_journal.proofs.journal.Journal.begin.Goals as goal

pub returns-clause-ok : goal.returns-clause-ok
returns-clause-ok g c = λ texts lost holds. begun_ok g.D.Disk.may_leave texts lost c.args.self.now _ holds refl c.requires.missing refl c.in_ok-write_safely.ensures.done
