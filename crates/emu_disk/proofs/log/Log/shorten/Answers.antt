use Rattle.std.proofs.Common.{◌∙◌, sym}
use Rattle.emu_disk.proofs.Kept.{changed}
use Rattle.emu_disk.proofs.log.Log.shorten.Goals as goal

pub invariant_of-self-2 : goal.invariant_of-self-2
invariant_of-self-2 c =
    let is = c.keep_front.ensures ∙ sym c.requires in
    record { replays = changed _ _ _ _ _ _ c.args.self.now.replays is c.in_ok-push.ensures.items }
