use Rattle.level_items.proofs.Rules.{retime_tested}
use Rattle.level_items.proofs.moves.retime_passes.Goals as goal

pub returns : goal.returns
returns c =
    retime_tested _ c.args.kind c.args.items.now c.args.position c.args.time c.neighbours_pass.result c.in_ok-time_passes.ensures
    c.neighbours_pass.ensures
