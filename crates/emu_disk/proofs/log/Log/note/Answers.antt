use Rattle.emu_disk.proofs.Kept.{noted_if}
use Rattle.emu_disk.proofs.log.Log.note.Goals as goal

pub invariant_of-self : goal.invariant_of-self
invariant_of-self c = record {
  replays = noted_if _ c.args.self.now.first.items c.args.self.now.bytes.items c.args.self.now.calls.items c.push.new.self.items c.args.call c.args.self.now.replays c.requires c.push.ensures.items;
}
