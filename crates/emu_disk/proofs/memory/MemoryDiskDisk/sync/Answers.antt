use Rattle.std.proofs.Common.{false, Some, refl, ap}
use Rattle.emu_disk.specs.declared.call.Call.TheVariants.{Sync}
use Rattle.emu_disk.proofs.Kept.{calls_failed, not_due, first_failed, time_adds, time_failed, bytes_by, same_failed, within_failed, all_failed, synced, synced_within}
use Rattle.emu_disk.proofs.memory.MemoryDiskDisk.sync.Goals as goal

pub returns-in-Ok-clause-durable : goal.returns-in-Ok-clause-durable
returns-in-Ok-clause-durable c = synced _ _ c.in-Ok.ensures.moves

pub returns-in-Ok-clause-same : goal.returns-in-Ok-clause-same
returns-in-Ok-clause-same c = ap Some (bytes_by _ _ _ c.in-Ok.ensures.moves)

pub returns-in-Ok-clause-crash : goal.returns-in-Ok-clause-crash
returns-in-Ok-clause-crash c = synced_within _ _ c.in-Ok.ensures.moves

pub returns-in-Ok-clause-time : goal.returns-in-Ok-clause-time
returns-in-Ok-clause-time c = time_adds _ _ _ c.in-Ok.ensures.moves

pub returns-in-Err-clause-same : goal.returns-in-Err-clause-same
returns-in-Err-clause-same c = ap Some (same_failed _ _ _ refl c.in-Err.ensures.moves)

pub returns-in-Err-clause-crash : goal.returns-in-Err-clause-crash
returns-in-Err-clause-crash c = within_failed _ _ (Sync false) (λ xs d e is. is) c.in-Err.ensures.moves

pub returns-in-Err-clause-all : goal.returns-in-Err-clause-all
returns-in-Err-clause-all c = all_failed _ _ (Sync false) (λ xs d. refl) c.in-Err.ensures.moves

pub returns-in-Err-clause-time : goal.returns-in-Err-clause-time
returns-in-Err-clause-time c = time_failed _ _ _ c.in-Err.ensures.moves

pub returns-in-Ok-clause-made : goal.returns-in-Ok-clause-made
returns-in-Ok-clause-made c = record {
  due = c.turn-done.ensures.due c.in-Ok.ensures.due;
  failed = tt;
  calls = c.in-Ok.ensures.moves.calls;
  first = c.in-Ok.ensures.moves.first;
  failing = c.turn-done.ensures.failing;
  stop = c.turn-done.ensures.stop;
  made = c.turn-done.ensures.made;
}

pub returns-in-Err-clause-made : goal.returns-in-Err-clause-made
returns-in-Err-clause-made c = record {
  due = tt;
  failed = not_due _ _ _ c.turn-done.ensures.all c.in-Err.ensures.failed;
  calls = calls_failed _ _ _ c.in-Err.ensures.moves;
  first = first_failed _ _ _ c.in-Err.ensures.moves;
  failing = c.turn-done.ensures.failing;
  stop = c.turn-done.ensures.stop;
  made = c.turn-done.ensures.made;
}
