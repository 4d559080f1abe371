use Rattle.std.proofs.Common.{◌-◌, take, drop, ap, ◌∙◌}
use Rattle.hier_closure.proofs.Places.{cut_is}
use Rattle.hier_closure.proofs.stands.LevelStands.of_item.Goals as goal

pub returns : goal.returns
returns c =
    c.split_at-2.ensures.front
    ∙ ap (take (c.get-2.result.now - c.get.result.now)) (c.split_at.ensures.back ∙ ap (drop c.get.result.now) c.as_slice.ensures)
    ∙ cut_is c.args.self.now c.args.position c.get.result.now c.get-2.result.now c.get.ensures c.get-2.ensures
