use Rattle.std.proofs.Common.{◌∙◌, subst, sym, ap, arith}
use Rattle.std.proofs.lemmas.List.{get_or-map, length-map}
use Rattle.level_items.specs.Levels.{Level, KeepsLevelRule}
use Rattle.bundle_state.specs.Made.{made_level}
use Rattle.bundle_state.proofs.given_levels.made_levels.Goals as goal

pub made_level-requires : goal.made_level-requires
made_level-requires c =
    let level : Level = made_level c.args.levels.now c.def-item.result in
    subst KeepsLevelRule
    (get_or-map (made_level c.args.levels.now) c.args.defs.now c.loop-def.def-index c.def-item.result level (omega arith)
    ∙ ap (made_level c.args.levels.now) (sym c.def-item.is))
    (c.requires c.loop-def.def-index level (omega (arith, length-map c.args.defs.now (made_level c.args.levels.now))))
