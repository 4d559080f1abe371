use Rattle.std.proofs.Common.{◌≡◌, Some, sym, ◌∙◌, subst}
use Rattle.bundle_state.specs.Bundle.{BundleParts}
use Rattle.db_config.specs.declared.parts.ConfigParts.{ConfigParts}
use Rattle.edit_rules.specs.Database.{bundle_with}
use Rattle.version_tree.specs.Version.{state_of}
use Rattle.version_steps.specs.Inner.Steps.{AreTouchedBy}
use Rattle.version_steps.proofs.StepChanges.{touched_there}
use Rattle.version_steps.proofs.edited.indexed_in.Goals as goal

pub reindexed-requires : goal.reindexed-requires
reindexed-requires c =
    let v = c.args.version.now in
    let old : BundleParts = c.in-Some.old.now.bundle in
    let found : bundle_with c.args.key.now (state_of v).bundles ≡ Some old = sym c.in-Some.ensures.state in
    subst (λ (config : ConfigParts). AreTouchedBy config old.levels c.args.edits.now c.args.bundle.levels) (sym c.config.ensures)
    (touched_there v c.args.key.now c.args.edits.now old c.args.bundle c.requires.keeps c.requires.together found c.requires.made)
