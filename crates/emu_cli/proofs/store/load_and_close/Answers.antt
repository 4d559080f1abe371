use Rattle.std.proofs.Common.{subst, sym}
use Rattle.edit_journal.specs.Held.{disk_of}
use Rattle.emu_cli.specs.Ends.{LeavesLoaded}
use Rattle.emu_cli.proofs.Images.{load_images, load_count, load_moments}
use Rattle.emu_cli.proofs.store.load_and_close.Goals as goal

pub returns : goal.returns
returns g c = λ begin low leaves. record {
  empty = c.requires;
  result = c.load-journal.result.result;
  new = c.load-journal.result.journal;
  loads = c.load-journal.ensures.stored;
  own = c.into_disk.ensures;
  read = c.load-journal.ensures.read;
  failed = load_count g.D.Disk.faults c.load-journal.result.journal c.into_disk.result (g.D.Disk.faults begin) (g.D.Disk.faults (disk_of c.args.journal)) c.load-journal.result.result low c.into_disk.ensures c.load-journal.ensures.disk;
  end = c.done_end.ensures;
  images = subst (λ d. LeavesLoaded g.D.Disk (g.F.Folder.content c.args.folder.now) c.args.name.now c.args.journal c.load-journal.result.result c.load-journal.result.journal (g.D.Disk.may_leave d) c.load-journal.ensures.stored) (sym c.into_disk.ensures)
      (load_images g.D.Disk (g.F.Folder.content c.args.folder.now) c.args.name.now c.args.journal c.load-journal.result.journal c.load-journal.result.result c.requires c.load-journal.ensures.stored);
  moments = load_moments g.D.Disk (g.F.Folder.content c.args.folder.now) c.args.name.now begin c.into_disk.result c.args.journal c.load-journal.result.journal c.load-journal.result.result c.into_disk.ensures leaves c.load-journal.ensures.stored;
}
