use Rattle.std.proofs.Common.{◌≡◌, take}
use Rattle.emu_disk.specs.Inner.Memory.{content, IsImage}
use Rattle.emu_disk.proofs.memory.MemoryDisk.image.Given as goal

abbrev pub invariant-loop-call : goal.invariant-loop-call
invariant-loop-call l = record {
  bytes : l.replay.bytes.items ≡ content l.self.log.first.items (take l.call-index l.self.log.calls.items);
  image : IsImage l.self.log.first.items (take l.call-index l.self.log.calls.items) l.replay.image.items;
}
