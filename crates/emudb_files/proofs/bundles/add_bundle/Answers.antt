use Rattle.emudb_files.proofs.Going.{added_goes, edit_stops}
use Rattle.emudb_files.specs.Wanted.{bundle_wanted}
use Rattle.emudb_files.proofs.bundles.add_bundle.Goals as goal

pub returns-in-Ok-clause-goes : goal.returns-in-Ok-clause-goes
returns-in-Ok-clause-goes g c =
    added_goes g.D.Disk.may_leave g.D.Disk.moment g.D.Disk.left_since g.D.Disk.faults (g.F.Folder.content c.args.folder.now)
    (λ content. bundle_wanted c.args.path.now c.args.session.now content c.args.bundle.now) c.args.book.now
    c.add.new.book c.in-Ok.act c.add.result c.requires c.add.ensures c.in-Ok.ensures.adds c.in-Ok.ensures.reads.given

pub returns-in-Err-clause-goes : goal.returns-in-Err-clause-goes
returns-in-Err-clause-goes g c =
    edit_stops g.D.Disk.may_leave g.D.Disk.moment g.D.Disk.left_since (g.F.Folder.content c.args.folder.now)
    (λ content. bundle_wanted c.args.path.now c.args.session.now content c.args.bundle.now) c.args.book.now
    c.in-Err.fault c.requires c.in-Err.ensures.reads
