use Rattle.std.proofs.Common.{arith}
use Rattle.emu_disk.proofs.Kept.{replayed}
use Rattle.emu_disk.proofs.memory.MemoryDisk.image.Goals as goal

pub loop-call-preserved : goal.loop-call-preserved
loop-call-preserved c =
    let log = c.args.self.now.log in
    let l = c.loop-call in
    let next = replayed log.first.items log.calls.items l.call-index c.call-item.result l.replay.bytes.items c.step.new.self.bytes.items l.replay.image.items c.step.new.self.image.items
    (omega arith) (rw c.deref-call-items.ensures.value at c.call-item.is) l.invariant.bytes l.invariant.image c.in_ok-step.ensures.bytes c.in_ok-step.ensures.image in
    record { bytes = next.0; image = next.1 }
