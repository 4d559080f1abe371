use Rattle.std.proofs.Common.{◌≡◌, Option, Result, Ok, Err, sym, ap, subst}
use Rattle.emu_names.specs.Inner.Gives.{GivesOrBroken}
use Rattle.emu_names.specs.declared.rules.Broken.{Broken}
use Rattle.emu_names.specs.declared.rules.Fault.{Fault}
use Rattle.emu_names.specs.declared.rules.Fault.TheVariants as faults
use Rattle.db_config.specs.declared.parts.ConfigParts.{ConfigParts}
use Rattle.bundle_state.specs.Bundle.{BundleParts}
use Rattle.emu_names.specs.Steps.{onward}
use Rattle.bundle_edits.specs.declared.bundle_change.Counts.{Counts}
use Rattle.bundle_edits.specs.declared.edit.Edit.{Edit}
use Rattle.bundle_edits.specs.Changes.{bundle_changed, if_kept}
use Rattle.bundle_edits.specs.Inner.Given.{kept}
use Rattle.bundle_edits.proofs.bundle_change.change_copy.Goals as goal

kept_gives : (e : Edit) (r : Result BundleParts Fault) (there : Result BundleParts Broken) → GivesOrBroken r there → GivesOrBroken (kept e r) (onward there (if_kept e))
kept_gives e (Ok b) there gives = ap (λ (t : Result BundleParts Broken). onward t (if_kept e)) gives
kept_gives e (Err (faults.Broken rule)) there gives = ap (λ (t : Result BundleParts Broken). onward t (if_kept e)) gives
kept_gives e (Err faults.Memory) there gives = tt

copied : (config : ConfigParts) (counts : Counts) (e : Edit) (b copy : BundleParts) (r : Result BundleParts Fault) (k : Result (Option BundleParts) Fault) → copy ≡ b → k ≡ kept e r →
    GivesOrBroken r (bundle_changed config counts e copy) → GivesOrBroken k (onward (bundle_changed config counts e b) (if_kept e))
copied config counts e b copy r k same is gives =
    subst (λ (q : Result (Option BundleParts) Fault). GivesOrBroken q (onward (bundle_changed config counts e b) (if_kept e))) (sym is)
    (subst (λ (c : BundleParts). GivesOrBroken (kept e r) (onward (bundle_changed config counts e c) (if_kept e))) same (kept_gives e r (bundle_changed config counts e copy) gives))

pub returns : goal.returns
returns c =
    copied c.args.config.now c.args.counts c.args.edit.now c.args.bundle.now c.in_ok-copy.copy c.change_own.result c.if_kept.result c.in_ok-copy.ensures c.if_kept.ensures c.change_own.ensures
