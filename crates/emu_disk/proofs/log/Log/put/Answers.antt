use Rattle.std.proofs.Common.{◌∙◌, ap, sym}
use Rattle.emu_disk.specs.Disk.{put}
use Rattle.emu_disk.proofs.Kept.{changed}
use Rattle.emu_disk.proofs.log.Log.put.Goals as goal

pub invariant_of-self-2 : goal.invariant_of-self-2
invariant_of-self-2 c =
    let is = c.overlay.ensures.bytes ∙ ap (put c.args.at c.args.bytes.now) c.reserve.ensures.items ∙ sym c.requires.puts in
    record { replays = changed _ _ _ _ _ _ c.args.self.now.replays is c.in_ok-push.ensures.items }
