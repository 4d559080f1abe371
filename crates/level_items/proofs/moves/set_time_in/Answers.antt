use Rattle.std.proofs.Common.{refl}
use Rattle.level_items.specs.Levels.{retimed}
use Rattle.level_items.proofs.Rules.{set_is_change}
use Rattle.level_items.proofs.moves.set_time_in.Goals as goal

pub returns : goal.returns
returns c =
    set_is_change (retimed c.args.time) c.args.items.now c.args.position c.index-items-position.result _ c.requires refl
