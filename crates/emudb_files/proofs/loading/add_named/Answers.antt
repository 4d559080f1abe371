use Rattle.std.proofs.Common.{◌∙◌, subst, List, ℕ}
use Rattle.emudb_files.specs.Inner.Running.{Goes}
use Rattle.emudb_files.specs.Wanted.{bundles_wanted, database_wanted}
use Rattle.emudb_files.proofs.Going.{memory_stops}
use Rattle.emudb_files.proofs.loading.add_named.Goals as goal

pub returns-in-Ok-clause-goes : goal.returns-in-Ok-clause-goes
returns-in-Ok-clause-goes g c =
    let P : List ℕ → Type 0 = λ p. Goes g.D.Disk.may_leave g.D.Disk.moment g.D.Disk.left_since (g.F.Folder.content c.args.folder.now) (database_wanted p)
    c.args.book.now c.add_database.result c.add_database.new.book in
    subst P (c.as_str.ensures ∙ c.in-Ok.ensures) c.add_database.ensures.goes

pub returns-in-Err-clause-goes : goal.returns-in-Err-clause-goes
returns-in-Err-clause-goes g c =
    memory_stops g.D.Disk.may_leave g.D.Disk.moment g.D.Disk.left_since (g.F.Folder.content c.args.folder.now) (bundles_wanted c.args.name.now)
    c.args.book.now c.requires
