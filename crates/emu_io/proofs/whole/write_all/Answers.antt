use Rattle.std.proofs.Common.{rules}
use Rattle.emu_io.proofs.FrontLemmas.{appended_more}
use Rattle.emu_io.proofs.whole.write_all.Goals as goal

pub turns-preserved : goal.turns-preserved
turns-preserved g c =
    record {
      front = appended_more _ _ _ c.args.bytes.now c.turns.at _ c.turns.invariant.front c.in_ok-at.ensures.bytes;
      fits = search rules;
      later = search rules;
    }
