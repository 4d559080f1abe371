use Rattle.std.proofs.Common.{Some, ap}
use Rattle.emu_disk.proofs.Kept.{torn_reads, calls_failed, not_due, first_failed, image_by, time_adds, time_failed, bytes_by, torn_failed}
use Rattle.emu_disk.proofs.memory.MemoryDiskDisk.write_at.Goals as goal

pub returns-in-Ok-clause-written : goal.returns-in-Ok-clause-written
returns-in-Ok-clause-written c = ap Some (bytes_by _ _ _ c.in-Ok.ensures.moves)

pub returns-in-Ok-clause-crash : goal.returns-in-Ok-clause-crash
returns-in-Ok-clause-crash c = λ d image. image_by _ _ _ d c.in-Ok.ensures.moves image

pub returns-in-Ok-clause-time : goal.returns-in-Ok-clause-time
returns-in-Ok-clause-time c = time_adds _ _ _ c.in-Ok.ensures.moves

pub returns-in-Err-clause-crash : goal.returns-in-Err-clause-crash
returns-in-Err-clause-crash c = torn_failed _ _ _ _ c.in-Err.ensures.moves

pub returns-in-Err-clause-time : goal.returns-in-Err-clause-time
returns-in-Err-clause-time c = time_failed _ _ _ c.in-Err.ensures.moves

pub returns-in-Ok-clause-made : goal.returns-in-Ok-clause-made
returns-in-Ok-clause-made c = record {
  due = c.turn-done.ensures.due c.in-Ok.ensures.due;
  failed = tt;
  calls = c.in-Ok.ensures.moves.calls;
  first = c.in-Ok.ensures.moves.first;
  failing = c.turn-done.ensures.failing;
  stop = c.turn-done.ensures.stop;
  made = c.turn-done.ensures.made;
}

pub returns-in-Err-clause-made : goal.returns-in-Err-clause-made
returns-in-Err-clause-made c = record {
  due = tt;
  failed = not_due _ _ _ c.turn-done.ensures.all c.in-Err.ensures.failed;
  calls = calls_failed _ _ _ c.in-Err.ensures.moves;
  first = first_failed _ _ _ c.in-Err.ensures.moves;
  failing = c.turn-done.ensures.failing;
  stop = c.turn-done.ensures.stop;
  made = c.turn-done.ensures.made;
}

pub returns-in-Err-clause-torn : goal.returns-in-Err-clause-torn
returns-in-Err-clause-torn c = torn_reads _ _ _ _ c.in-Err.ensures.moves
