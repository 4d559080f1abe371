use Rattle.std.proofs.Common.{◌≡◌, ◌∙◌, ap}
use Rattle.db_config.specs.declared.parts.ConfigParts.{ConfigParts}
use Rattle.bundle_state.proofs.LevelsKept.{made_fine}
use Rattle.bundle_state.proofs.given_levels.levels_for.Goals as goal

pub made_levels-requires : goal.made_levels-requires
made_levels-requires c =
    let defs : c.as_slice-defs.result.now ≡ c.args.config.now.levels = c.as_slice-defs.ensures ∙ ap (λ (p : ConfigParts). p.levels) c.parts.ensures.parts in
    let fine = rw defs at c.in_ok-annot_passes.ensures in
    rw (defs, c.as_slice.ensures) (made_fine c.args.config.now c.args.annot.now c.parts.ensures.valid fine).rules
