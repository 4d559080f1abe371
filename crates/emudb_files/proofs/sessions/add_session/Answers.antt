use Rattle.emudb_files.specs.Wanted.{session_in, bundles_of}
use Rattle.emudb_files.proofs.Going.{names_stop}
use Rattle.emudb_files.proofs.Reading.{session_goes}
use Rattle.emudb_files.proofs.sessions.add_session.Goals as goal

pub returns-in-Ok-clause-goes : goal.returns-in-Ok-clause-goes
returns-in-Ok-clause-goes g c =
    session_goes g.D.Disk.may_leave g.D.Disk.moment g.D.Disk.left_since (g.F.Folder.content c.args.folder.now)
    (g.F.Folder.content c.session_in.new.folder) c.args.path.now c.args.session.now c.in-Ok.found c.as_str.result.now
    c.as_slice-names.result.now c.args.book.now c.add_bundles.result c.add_bundles.new.book c.as_str.ensures
    c.as_slice-names.ensures c.in-Ok.ensures.same c.in-Ok.ensures.reads c.add_bundles.ensures.goes

pub returns-in-Err-clause-goes : goal.returns-in-Err-clause-goes
returns-in-Err-clause-goes g c =
    names_stop g.D.Disk.may_leave g.D.Disk.moment g.D.Disk.left_since (g.F.Folder.content c.args.folder.now)
    (session_in c.args.path.now c.args.session.now) bundles_of c.args.book.now c.in-Err.fault c.requires
    c.in-Err.ensures.reads
