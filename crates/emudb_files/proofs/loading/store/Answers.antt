use Rattle.std.proofs.Common.{inr, subst}
use Rattle.db_config.specs.declared.parts.ConfigParts.{ConfigParts}
use Rattle.emudb_files.specs.Stored.{IsFilled}
use Rattle.emudb_files.specs.Wanted.{bundles_wanted}
use Rattle.emudb_files.proofs.Ending.{filled_from}
use Rattle.emudb_files.proofs.loading.store.Goals as goal

pub returns-in-Ok-clause-stored : goal.returns-in-Ok-clause-stored
returns-in-Ok-clause-stored g c =
    let P : ConfigParts → Type 0 = λ d. IsFilled g.D.Disk.may_leave g.D.Disk.moment g.D.Disk.left_since
    (g.F.Folder.content c.args.folder.now) (bundles_wanted c.args.name.now) d c.in-Ok.made.book.journal
    c.fill.result.result c.fill.result.journal in
    inr (filled_from g.D.Disk.may_leave g.D.Disk.moment g.D.Disk.left_since (g.F.Folder.content c.args.folder.now)
    (bundles_wanted c.args.name.now) c.args.config c.args.journal c.in-Ok.made.book.journal c.fill.result.result
    c.fill.result.journal c.in-Ok.ensures.any_moment (subst P c.in-Ok.ensures.made.config c.fill.ensures.filled))
