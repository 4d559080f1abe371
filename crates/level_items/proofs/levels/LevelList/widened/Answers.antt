use Rattle.std.proofs.Common.{map, ◌∙◌, ap}
use Rattle.level_items.specs.Levels.{widened_item}
use Rattle.level_items.proofs.Wider.{kept_copy}
use Rattle.level_items.proofs.levels.LevelList.widened.Goals as goal

pub invariant_of-result : goal.invariant_of-result
invariant_of-result c =
    let inside = c.self.inside in
    let within = rw (← c.self.view_is) at c.requires in
    let made = c.in_ok-items.ensures ∙ ap (map (widened_item c.args.attributes)) c.as_slice.ensures.value in
    kept_copy inside.kind inside.attributes c.args.attributes inside.items.items c.in_ok-items.items.items inside.marks c.in_ok-marks.marks
    within c.self.invariant made c.in_ok-marks.ensures
