use Rattle.std.proofs.Common.{◌∙◌, subst}
use Rattle.emu_disk.specs.Disk.{IsRead}
use Rattle.emu_disk.proofs.log.Log.read.Goals as goal

pub returns-clause-bytes : goal.returns-clause-bytes
returns-clause-bytes c = subst (λ xs. IsRead xs c.args.at c.copy_from.result c.copy_from.new.buf) (c.deref.ensures.value ∙ c.note.ensures.bytes) c.copy_from.ensures
