use Rattle.std.proofs.Common.{◌≡◌, ◌+◌, ◌-◌, ◌≤◌, length}
use Rattle.emu_disk.specs.Disk.{Within, LeavesOnly}
use Rattle.edit_journal.specs.Store.{limit}
use Rattle.edit_journal.proofs.Found.{FrontOf}
use Rattle.edit_journal.proofs.recovery.read_all.Given as goal

abbrev pub invariant-reads : goal.invariant-reads
invariant-reads g l = record {
  front : FrontOf (g.D.Disk.reads l.fn.disk) l.bytes.items;
  same : g.D.Disk.reads l.disk ≡ g.D.Disk.reads l.fn.disk;
  crash : Within (g.D.Disk.may_leave l.fn.disk) (g.D.Disk.may_leave l.disk);
  moments : LeavesOnly g.D.Disk.moment g.D.Disk.left_since l.fn.disk l.disk (g.D.Disk.may_leave l.fn.disk);
  later : g.D.Disk.faults l.fn.disk ≤ g.D.Disk.faults l.disk;
}

abbrev pub decreases-reads : goal.decreases-reads
decreases-reads g l = limit + 1 - length l.bytes.items
