use Rattle.std.proofs.Common.{length, true, false, Some, refl, ap}
use Rattle.emu_disk.specs.declared.call.Call.TheVariants.{Read}
use Rattle.emu_disk.proofs.Kept.{calls_failed, not_due, first_failed, within_adds, all_adds, time_adds, time_failed, bytes_by, same_failed, within_failed, all_failed}
use Rattle.emu_disk.proofs.memory.MemoryDiskDisk.read.Goals as goal

pub returns-in-Ok-clause-same : goal.returns-in-Ok-clause-same
returns-in-Ok-clause-same c = ap Some (bytes_by _ _ _ c.in-Ok.ensures.moves)

pub returns-in-Ok-clause-crash : goal.returns-in-Ok-clause-crash
returns-in-Ok-clause-crash c = within_adds _ _ (Read c.args.at (length c.args.buf.now) true) (λ xs d e is. is) c.in-Ok.ensures.moves

pub returns-in-Ok-clause-all : goal.returns-in-Ok-clause-all
returns-in-Ok-clause-all c = all_adds _ _ (Read c.args.at (length c.args.buf.now) true) (λ xs d. refl) c.in-Ok.ensures.moves

pub returns-in-Ok-clause-time : goal.returns-in-Ok-clause-time
returns-in-Ok-clause-time c = time_adds _ _ _ c.in-Ok.ensures.moves

pub returns-in-Err-clause-same : goal.returns-in-Err-clause-same
returns-in-Err-clause-same c = ap Some (same_failed _ _ _ refl c.in-Err.ensures.moves)

pub returns-in-Err-clause-crash : goal.returns-in-Err-clause-crash
returns-in-Err-clause-crash c = within_failed _ _ (Read c.args.at (length c.args.buf.now) false) (λ xs d e is. is) c.in-Err.ensures.moves

pub returns-in-Err-clause-all : goal.returns-in-Err-clause-all
returns-in-Err-clause-all c = all_failed _ _ (Read c.args.at (length c.args.buf.now) false) (λ xs d. refl) c.in-Err.ensures.moves

pub returns-in-Err-clause-time : goal.returns-in-Err-clause-time
returns-in-Err-clause-time c = time_failed _ _ _ c.in-Err.ensures.moves

pub returns-in-Ok-clause-made : goal.returns-in-Ok-clause-made
returns-in-Ok-clause-made c = record {
  due = c.turn-done.ensures.due c.in-Ok.ensures.due;
  failed = tt;
  calls = c.in-Ok.ensures.moves.calls;
  first = c.in-Ok.ensures.moves.first;
  failing = c.turn-done.ensures.failing;
  stop = c.turn-done.ensures.stop;
  made = c.turn-done.ensures.made;
}

pub returns-in-Err-clause-made : goal.returns-in-Err-clause-made
returns-in-Err-clause-made c = record {
  due = tt;
  failed = not_due _ _ _ c.turn-done.ensures.all c.in-Err.ensures.failed;
  calls = calls_failed _ _ _ c.in-Err.ensures.moves;
  first = first_failed _ _ _ c.in-Err.ensures.moves;
  failing = c.turn-done.ensures.failing;
  stop = c.turn-done.ensures.stop;
  made = c.turn-done.ensures.made;
}
