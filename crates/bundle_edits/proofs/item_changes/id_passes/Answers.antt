use Rattle.std.proofs.Common.{sym}
use Rattle.bundle_edits.proofs.Lookups.{taken_is, free_is}
use Rattle.bundle_edits.proofs.item_changes.id_passes.Goals as goal

pub returns-in-Some : goal.returns-in-Some
returns-in-Some c = taken_is c.args.id c.args.bundle.now.levels _ (sym c.in-Some.ensures)

pub returns-in-None : goal.returns-in-None
returns-in-None c = free_is c.args.id c.args.bundle.now.levels (sym c.in-None.ensures)
