use Rattle.std.proofs.Common.{ℕ, ◌≤◌, subst, arith}
use Rattle.script_runs.specs.live_book.Kept.{faults_in}
use Rattle.emudb_files.specs.Wanted.{import_wanted}
use Rattle.emu_cli.proofs.Images.{disk_images, imported, import_count, import_moments}
use Rattle.emu_cli.proofs.store.import_and_close.Goals as goal

pub returns : goal.returns
returns g c = λ begin low leaves.
    let doubt = imported g.D.Disk (g.F.Folder.content c.args.folder.now) (import_wanted c.args.session.now c.args.bundle.now c.args.rate c.args.file.now) c.args.book c.import-made.new.book c.import-made.result c.requires.settled c.import-made.ensures.stored in
    record {
      settled = c.requires.settled;
      result = c.import-made.result;
      new = c.import-made.new.book;
      imports = c.import-made.ensures.stored;
      own = c.disk_of_book.ensures;
      read = c.import-made.ensures.read;
      failed = import_count g.D.Disk.faults c.import-made.new.book.journal c.disk_of_book.result (g.D.Disk.faults begin) (faults_in g.D.Disk.faults c.args.book.journal) c.import-made.result low c.disk_of_book.ensures c.import-made.ensures.disk;
      end = c.done_end.ensures;
      lost = doubt.lost;
      doubt = doubt.doubt;
      images = disk_images g.D.Disk.may_leave c.import-made.new.book.journal c.disk_of_book.result c.disk_of_book.ensures c.import-made.new.book.config c.import-made.new.book.history doubt.lost doubt.keeps;
      moments = import_moments g.D.Disk (g.F.Folder.content c.args.folder.now) (import_wanted c.args.session.now c.args.bundle.now c.args.rate c.args.file.now) c.args.book c.import-made.new.book c.import-made.result begin c.disk_of_book.result c.requires.settled c.disk_of_book.ensures leaves c.import-made.ensures.stored;
    }
