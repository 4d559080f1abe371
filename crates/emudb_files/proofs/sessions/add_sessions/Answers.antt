use Rattle.std.proofs.Common.{◌∙◌, refl, le_trans, arith}
use Rattle.emudb_files.specs.Wanted.{session_wanted}
use Rattle.emudb_files.proofs.Going.{each_step, each_stop, each_end, item_is, nothing_yet}
use Rattle.emudb_files.proofs.sessions.add_sessions.Goals as goal

pub names-init : goal.names-init
names-init g c = record {
  advances = nothing_yet g.D.Disk.may_leave g.D.Disk.moment g.D.Disk.left_since (g.F.Folder.content c.args.folder.now)
      c.args.book.now c.requires;
  same = refl;
  faults = omega arith;
  misses = omega arith;
  disk = omega arith;
}

pub names-preserved : goal.names-preserved
names-preserved g c = record {
  advances = each_step g.D.Disk.may_leave g.D.Disk.moment g.D.Disk.left_since (session_wanted c.args.path.now)
      (g.F.Folder.content c.args.folder.now) (g.F.Folder.content c.names.folder) c.args.names.now c.names.name-index
      c.as_str.result.now c.args.book.now c.names.book c.add_session.new.book c.names-test.true
      (item_is c.as_str.result.now c.name-item.result c.args.names.now c.names.name-index c.as_str.ensures c.name-item.is)
      c.names.invariant.same c.names.invariant.advances c.in-Ok.ensures.goes;
  same = c.in-Ok.ensures.same ∙ c.names.invariant.same;
  faults = le_trans c.names.invariant.faults c.in-Ok.ensures.read.later_faults;
  misses = le_trans c.names.invariant.misses c.in-Ok.ensures.read.later_misses;
  disk = le_trans c.names.invariant.disk c.in-Ok.ensures.disk.later;
}

pub returns-in-Err-clause-goes : goal.returns-in-Err-clause-goes
returns-in-Err-clause-goes g c =
    each_stop g.D.Disk.may_leave g.D.Disk.moment g.D.Disk.left_since (session_wanted c.args.path.now)
    (g.F.Folder.content c.args.folder.now) (g.F.Folder.content c.names.folder) c.args.names.now c.names.name-index
    c.as_str.result.now c.args.book.now c.names.book c.in-Err.fault c.add_session.new.book c.names-test.true
    (item_is c.as_str.result.now c.name-item.result c.args.names.now c.names.name-index c.as_str.ensures c.name-item.is)
    c.names.invariant.same c.names.invariant.advances c.in-Err.ensures.goes

pub returns-clause-goes : goal.returns-clause-goes
returns-clause-goes g c =
    each_end g.D.Disk.may_leave g.D.Disk.moment g.D.Disk.left_since (session_wanted c.args.path.now)
    (g.F.Folder.content c.args.folder.now) c.args.names.now c.names.name-index c.args.book.now c.names.book
    (omega (arith, c.names-test.false, c.names.auto.name-index-end)) c.names.invariant.advances
