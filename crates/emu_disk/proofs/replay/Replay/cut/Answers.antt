use Rattle.emu_disk.proofs.Kept.{cut_leaves}
use Rattle.emu_disk.proofs.replay.Replay.cut.Goals as goal

pub returns-clause-image : goal.returns-clause-image
returns-clause-image c = cut_leaves c.args.done c.args.len c.args.self.now.image.items _ c.shorten.ensures.done c.shorten.ensures.failed
