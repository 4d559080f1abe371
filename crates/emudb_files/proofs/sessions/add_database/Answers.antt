use Rattle.std.proofs.Common.{codes, flat_map}
use Rattle.emudb_files.specs.Wanted.{names_in, session_wanted}
use Rattle.emudb_files.proofs.Going.{names_stop, names_along}
use Rattle.emudb_files.proofs.sessions.add_database.Goals as goal

pub returns-in-Ok-clause-goes : goal.returns-in-Ok-clause-goes
returns-in-Ok-clause-goes g c =
    names_along g.D.Disk.may_leave g.D.Disk.moment g.D.Disk.left_since (g.F.Folder.content c.args.folder.now) (g.F.Folder.content c.names_in.new.folder)
    (names_in c.args.path.now (codes "_ses")) c.in-Ok.names c.as_slice.result.now
    (λ content. flat_map (session_wanted c.args.path.now content)) c.args.book.now c.add_sessions.result
    c.add_sessions.new.book c.as_slice.ensures c.in-Ok.ensures.same c.in-Ok.ensures.reads c.add_sessions.ensures.goes

pub returns-in-Err-clause-goes : goal.returns-in-Err-clause-goes
returns-in-Err-clause-goes g c =
    names_stop g.D.Disk.may_leave g.D.Disk.moment g.D.Disk.left_since (g.F.Folder.content c.args.folder.now) (names_in c.args.path.now (codes "_ses"))
    (λ content. flat_map (session_wanted c.args.path.now content)) c.args.book.now c.in-Err.fault c.requires
    c.in-Err.ensures.reads
