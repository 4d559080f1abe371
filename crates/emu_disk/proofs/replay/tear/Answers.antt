use Rattle.std.proofs.Common.{false, length, sym, subst}
use Rattle.std.proofs.lemmas.Result.{on_ok_weaker}
use Rattle.emu_disk.specs.Disk.{Torn}
use Rattle.emu_disk.specs.Inner.Laws.{torn_put, landed_fits}
use Rattle.emu_disk.proofs.replay.tear.Goals as goal

pub returns-in-Half : goal.returns-in-Half
returns-in-Half c =
    let bytes = c.args.bytes.now in
    let half = rw c.part.ensures at c.write_over.ensures in
    on_ok_weaker _ (λ is. subst (Torn c.args.at (length bytes) c.args.image.now.items) (sym is) (torn_put c.args.at (length bytes) _ c.args.image.now.items (landed_fits false bytes))) half
